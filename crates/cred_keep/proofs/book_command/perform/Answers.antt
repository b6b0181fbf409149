use Rattle.std.proofs.Common.{rules}
use Rattle.cred_keep.proofs.book_command.perform.Goals as goal

pub returns-in-Password-clause-done : goal.returns-in-Password-clause-done
returns-in-Password-clause-done g c = λ basis fits. rw c.in-Password.is (c.carry_out.result, c.carry_out.ensures.done basis fits, c.command_end.ensures)

-- ---- commands that read nothing

pub returns-in-Account-clause-done : goal.returns-in-Account-clause-done
returns-in-Account-clause-done g c = λ basis fits. search (rules, c.carry_out-in-Account.ensures basis)

pub returns-in-DisableShown-clause-done : goal.returns-in-DisableShown-clause-done
returns-in-DisableShown-clause-done g c = λ basis fits. search (rules, c.disable_shown.ensures basis)

pub returns-in-Show-clause-done : goal.returns-in-Show-clause-done
returns-in-Show-clause-done g c = λ basis fits. search (rules, c.show.ensures basis)

pub returns-in-ShowJson-clause-done : goal.returns-in-ShowJson-clause-done
returns-in-ShowJson-clause-done g c = λ basis fits. search (rules, c.show_json.ensures basis)

pub returns-in-List-clause-done : goal.returns-in-List-clause-done
returns-in-List-clause-done g c = λ basis fits. search (rules, c.list.ensures basis)
