-- An event's line is its words and fields.
use Rattle.std.proofs.Common.{◌≡◌, ℕ, List, [], ◌∷◌, if◌then◌else◌, nat_lt, length, None, Result, Ok, Err, refl, ap, subst, ◌∙◌, codes}
use Rattle.std.proofs.lemmas.Bool.{cond_both}
use Rattle.std.specs.{List.join_with_byte, Str.bytes_eq}
use Rattle.cred_phc.specs.{Pieces.pieces, Reading.◌>>=◌, Values.SettingValue}
use Rattle.cred_phc.proofs.{FieldLaws.same_bytes, PieceLaws.join-pieces}
use Rattle.cred_book.specs.{declared.request.Request.Request, declared.request.Request.TheVariants.Enrol, declared.request.Request.TheVariants.Verify, declared.request.Request.TheVariants.Change, declared.request.Request.TheVariants.Upgrade, declared.request.Request.TheVariants.Remove}
use Rattle.cred_cli.specs.{EventLines.IsLineOf, EventLines.IsRequestOf, declared.event.Event.Event, declared.refusal.Refusal.Refusal, declared.refusal.Refusal.TheVariants.Long}
use Rattle.cred_cli.specs.Events.{begin_event, begun, change_request, commit_event, event_of, event_of_pieces, is_line, key_field, longest_line, name_and, name_field, name_password_setting, only_name, or_bad, password_field, record_field, request_of, setting_field}
use Rattle.cred_cli.specs.declared.event.Event.TheVariants.{Account, Load, Show, Begin, Commit, Bad}

-- where a chain of steps gave a value, its first did
bound : {A B : Type 0} (r : Result A Refusal) (f : A → Result B Refusal) (y : B) → (r >>= f) ≡ Ok y → (x : A) × (r ≡ Ok x) × (f x ≡ Ok y)
bound (Ok x) f y e = (x, refl, e)
bound (Err why) f y e = cc e

same_ok : {A : Type 0} (x y : A) → ◌≡◌ {A = Result A Refusal} (Ok x) (Ok y) → x ≡ y
same_ok x y e = cc e

-- a line's word is this one, by which it was read, or another
chosen : {A P : Type 0} (word this : List ℕ) (x y : Result A Refusal) (z : A) → (if bytes_eq word this then x else y) ≡ Ok z → (word ≡ this → x ≡ Ok z → P) → (y ≡ Ok z → P) → P
chosen {A} {P} word this x y z e is other = cond_both (bytes_eq word this) x y (λ r. r ≡ Ok z → P) (λ test e. is (same_bytes word this test) e) (λ test e. other e) e

-- ---- the fields behind a word

name_line : (P : Event → List (List ℕ) → Type 0) (make : List ℕ → Event) → ((x name : List ℕ) → name_field x ≡ Ok name → P (make name) (x ∷ []))
    → (fields : List (List ℕ)) (event : Event) → (only_name fields >>= λ name. Ok (make name)) ≡ Ok event → P event fields
name_line P make each (x ∷ []) event e =
    let name = bound (name_field x) _ event e in
    subst (λ r. P r (x ∷ [])) (same_ok (make name.0) event name.2) (each x name.0 name.1)
name_line P make each _ event e = cc e

commit_line : (fields : List (List ℕ)) (event : Event) → commit_event fields ≡ Ok event → IsLineOf event (codes "commit" ∷ fields)
commit_line (k ∷ []) event e =
    let key = bound (key_field k) _ event e in
    rw (← same_ok (Commit key.0) event key.2) (k, refl, key.1)
commit_line _ event e = cc e

-- a name and one field more
two_line : {V M : Type 0} (read : List ℕ → Result V Refusal) (P : M → List (List ℕ) → Type 0) (make : List ℕ → V → M) → ((x p name : List ℕ) (v : V) → name_field x ≡ Ok name → read p ≡ Ok v → P (make name v) (x ∷ p ∷ []))
    → (fields : List (List ℕ)) (made : M) → (name_and read fields >>= λ f. Ok (make f.0 f.1)) ≡ Ok made → P made fields
two_line read P make each (x ∷ p ∷ []) made e =
    let both = bound (name_and read (x ∷ p ∷ [])) _ made e in
    let name = bound (name_field x) _ both.0 both.1 in
    let v = bound (read p) _ both.0 name.2 in
    subst (λ r. P r (x ∷ p ∷ [])) (ap (λ f. make f.0 f.1) (same_ok (name.0, v.0) both.0 v.2) ∙ same_ok _ made both.2) (each x p name.0 v.0 name.1 v.1)
two_line read P make each _ made e = cc e

setting_line : (P : Request → List (List ℕ) → Type 0) (make : List ℕ → List ℕ → SettingValue → Request)
    → ((x p s name pw : List ℕ) (setting : SettingValue) → name_field x ≡ Ok name → password_field p ≡ Ok pw → setting_field s ≡ Ok setting → P (make name pw setting) (x ∷ p ∷ s ∷ []))
    → (fields : List (List ℕ)) (request : Request) → (name_password_setting None fields >>= λ f. Ok (make f.0 f.1 f.2)) ≡ Ok request → P request fields
setting_line P make each (x ∷ p ∷ s ∷ []) request e =
    let read = bound (name_password_setting None (x ∷ p ∷ s ∷ [])) _ request e in
    let name = bound (name_field x) _ read.0 read.1 in
    let pw = bound (password_field p) _ read.0 name.2 in
    let setting = bound (setting_field s) _ read.0 pw.2 in
    subst (λ r. P r (x ∷ p ∷ s ∷ [])) (ap (λ f. make f.0 f.1 f.2) (same_ok (name.0, pw.0, setting.0) read.0 setting.2) ∙ same_ok _ request read.2)
    (each x p s name.0 pw.0 setting.0 name.1 pw.1 setting.1)
setting_line P make each _ request e = cc e

change_line : (fields : List (List ℕ)) (request : Request) → change_request None fields ≡ Ok request → IsRequestOf request (codes "change" ∷ fields)
change_line (x ∷ p ∷ q ∷ s ∷ []) request e =
    let name = bound (name_field x) _ request e in
    let pw = bound (password_field p) _ request name.2 in
    let new = bound (password_field q) _ request pw.2 in
    let setting = bound (setting_field s) _ request new.2 in
    rw (← same_ok (Change name.0 pw.0 new.0 setting.0) request setting.2) (x, p, q, s, refl, name.1, pw.1, new.1, setting.1)
change_line _ request e = cc e

-- the request of an operation's word and fields
request_line : (word : List ℕ) (fields : List (List ℕ)) (request : Request) → request_of None word fields ≡ Ok request → IsRequestOf request (word ∷ fields)
request_line word fields request e =
    chosen word (codes "verify") _ _ request e (λ is h. rw is (two_line password_field (λ r ws. IsRequestOf r (codes "verify" ∷ ws)) Verify (λ x p name pw named given. (x, p, refl, named, given)) fields request h)) (λ e.
    chosen word (codes "remove") _ _ request e (λ is h. rw is (two_line password_field (λ r ws. IsRequestOf r (codes "remove" ∷ ws)) Remove (λ x p name pw named given. (x, p, refl, named, given)) fields request h)) (λ e.
    chosen word (codes "enrol") _ _ request e (λ is h. rw is (setting_line (λ r ws. IsRequestOf r (codes "enrol" ∷ ws)) Enrol (λ x p s name pw setting named given set. (x, p, s, refl, named, given, set)) fields request h)) (λ e.
    chosen word (codes "upgrade") _ _ request e (λ is h. rw is (setting_line (λ r ws. IsRequestOf r (codes "upgrade" ∷ ws)) Upgrade (λ x p s name pw setting named given set. (x, p, s, refl, named, given, set)) fields request h)) (λ e.
    chosen word (codes "change") _ _ request e (λ is h. rw is (change_line fields request h)) (λ wrong. cc wrong)))))

-- ---- the lines

begun_line : (k word : List ℕ) (fields : List (List ℕ)) (event : Event) (read : Result Request Refusal) → request_of None word fields ≡ read → begun k read ≡ Ok event
    → IsLineOf event (codes "begin" ∷ k ∷ word ∷ fields)
begun_line k word fields event (Ok request) is e =
    let key = bound (key_field k) _ event e in
    rw (← same_ok (Begin key.0 request) event key.2) (k, word ∷ fields, refl, key.1, request_line word fields request is)
begun_line k word fields event (Err why) is e =
    cond_both (is_line why) (Err why) (key_field k >>= λ key. Err why) (λ r. r ≡ Ok event → IsLineOf event (codes "begin" ∷ k ∷ word ∷ fields)) (λ test e. cc e)
    (λ test e. let key = bound (key_field k) _ event e in cc key.2) e

begin_line : (fields : List (List ℕ)) (event : Event) → begin_event fields ≡ Ok event → IsLineOf event (codes "begin" ∷ fields)
begin_line (k ∷ word ∷ fields) event e = begun_line k word fields event (request_of None word fields) refl e
begin_line _ event e = cc e

words_line : (words : List (List ℕ)) (event : Event) → event_of_pieces words ≡ Ok event → IsLineOf event words
words_line [] event e = cc e
words_line (word ∷ fields) event e =
    chosen word (codes "account") _ _ event e (λ is h. rw is (name_line (λ r ws. IsLineOf r (codes "account" ∷ ws)) Account (λ x name read. (x, refl, read)) fields event h)) (λ e.
    chosen word (codes "load") _ _ event e (λ is h. rw is (two_line record_field (λ r ws. IsLineOf r (codes "load" ∷ ws)) Load (λ x r name stored named read. (x, r, refl, named, read)) fields event h)) (λ e.
    chosen word (codes "show") _ _ event e (λ is h. rw is (name_line (λ r ws. IsLineOf r (codes "show" ∷ ws)) Show (λ x name read. (x, refl, read)) fields event h)) (λ e.
    chosen word (codes "begin") _ _ event e (λ is h. rw is (begin_line fields event h)) (λ e.
    chosen word (codes "commit") _ _ event e (λ is h. rw is (commit_line fields event h)) (λ wrong. cc wrong)))))

pub event_line : (line : List ℕ) → (words : List (List ℕ)) × (line ≡ join_with_byte 32 words) × IsLineOf (event_of line) words
unfolding event_of
event_line line =
    let words = pieces 32 line in
    (words, join-pieces 32 line words refl, cond_both (nat_lt longest_line (length line)) (Bad Long) (or_bad (event_of_pieces words)) (λ event. IsLineOf event words) (λ long. tt) (λ short. read (event_of_pieces words) refl))
  where
    read : (answer : Result Event Refusal) → event_of_pieces (pieces 32 line) ≡ answer → IsLineOf (or_bad answer) (pieces 32 line)
    read (Ok event) is = words_line (pieces 32 line) event is
    read (Err why) is = tt
