-- The bytes of an answer as the code holds them, and the result of a done event.
use Rattle.std.specs.Prelude.{◌≡◌, ℕ, List, Option}
use Rattle.cred_book.specs.{Accounts.Accounts, Works.Task}
use Rattle.cred_cli.specs.{declared.answer.AnswerLine.AnswerLine, declared.answer.AnswerLine.TheVariants.Fixed, declared.answer.AnswerLine.TheVariants.Made, Steps.Step, Texts.line_of}

abbrev pub line_bytes : AnswerLine → List ℕ
line_bytes (Fixed bytes) = bytes.now
line_bytes (Made bytes) = bytes.items

-- the answer, the book and the tickets are the step's
abbrev pub IsDone : Step → Accounts → List (Option Task) → AnswerLine → Type 0
IsDone step book slots line =
    (line_bytes line ≡ line_of step.answer) × (book ≡ step.book) × (slots ≡ step.slots)
