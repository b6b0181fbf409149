use Rattle.cred_cli.proofs.Prompts.{length-prompt, prompt-stands}
use Rattle.cred_cli.proofs.laws.prompt_calls_are_answered.Goals as goal

pub returns : goal.returns
returns c = record { stands = prompt-stands; few = length-prompt }
