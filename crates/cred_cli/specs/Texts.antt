-- The text of each answer.
use Rattle.std.specs.Prelude.{ℕ, List, [], ◌∷◌, ◌++◌, codes, decimal, Some, None}
use Rattle.cred_phc.specs.Text.{record_text}
use Rattle.cred_cli.specs.History.{Answer, Done, Shown, Begun, Changed, Replied, Refused}
use Rattle.cred_cli.specs.{Refusals.error_number, Refusals.error_word, declared.refusal.Refusal.Refusal}
use Rattle.cred_book.specs.declared.request.Reply.{Reply}
use Rattle.cred_book.specs.declared.request.Reply.TheVariants as reply

-- `bad N WORD`
abbrev pub refusal_text : Refusal → List ℕ
refusal_text why = codes "bad " ++ decimal (error_number why) ++ codes " " ++ error_word why

-- the reply's name in lower case
abbrev pub reply_text : Reply → List ℕ
reply_text reply.Enrolled = codes "enrolled"
reply_text reply.Exists = codes "exists"
reply_text reply.Yes = codes "yes"
reply_text reply.No = codes "no"
reply_text reply.Absent = codes "absent"
reply_text reply.Replaced = codes "replaced"
reply_text reply.Wrong = codes "wrong"
reply_text reply.Upgraded = codes "upgraded"
reply_text reply.Kept = codes "kept"
reply_text reply.Removed = codes "removed"
reply_text (reply.Changed now) = codes "changed"
reply_text reply.NoAccount = codes "noaccount"

-- with the line end
abbrev pub reply_line : Reply → List ℕ
reply_line reply = reply_text reply ++ 10 ∷ []

abbrev pub text_of : Answer → List ℕ
text_of Done = codes "ok"
text_of (Shown None) = codes "none"
text_of (Shown (Some stored)) = record_text stored
text_of Begun = codes "begun"
text_of Changed = codes "changed"
text_of (Replied reply) = reply_text reply
text_of (Refused why) = refusal_text why

-- with the line end
abbrev pub line_of : Answer → List ℕ
line_of answer = text_of answer ++ 10 ∷ []
