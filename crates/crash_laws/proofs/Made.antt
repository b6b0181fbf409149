-- Changes that follow one another, and their answers.
use Rattle.std.proofs.Common.{◌≡◌, ◌⊎◌, inl, inr, arith, false, if◌then◌else◌, ◌||◌, List, [], ◌∷◌, ◌++◌, length, Option, Some, None, IfSome, IfErr, OnOk, is_ok, Ok, Err, refl, sym, ap, subst, ◌∙◌}
use Rattle.std.specs.Prelude.{◌≢◌, ⊤}
use Rattle.std.proofs.lemmas.List.{append_assoc, append-nil}
use Rattle.std.proofs.lemmas.List.Folds.{list_any-append}
use Rattle.sqlite.specs.{Store.Ghosts, declared.error.Error.Error}
use Rattle.cred_book.specs.{declared.error.BookError.BookError}
use Rattle.cred_book.specs.declared.error.BookError.TheVariants.{Memory}
use Rattle.cred_book.specs.declared.error.BookError.TheVariants as error
use Rattle.cred_file.specs.{Cells.Cells, Changes.Becomes, Changes.after_attempt, Keeps.IsOrWith, Kept.Kept, Kept.cells}
use Rattle.cred_file.specs.{declared.fault.Attempt.Attempt, declared.fault.Lost.Lost, Failures.IsLossOf, Failures.LosesForMemory, Failures.Remembers, Failures.WasClean}
use Rattle.crash_laws.specs.Crashes.{Answer, AreMade, Asked, Follow, IsCall, IsLeft, IsUnderWay, after, after_one, asked_of, is_done}

after_more : (book : Cells) (asked : List Asked) (a : Asked) → after book (asked ++ a ∷ []) ≡ after_one (after book asked) a
unfolding after
after_more book [] a = refl
after_more book (x ∷ asked) a = after_more (after_one book x) asked a

pub asked_more : (answers : List Answer) (changes : List Attempt) (answer : Answer) (change : Attempt) → length answers ≡ length changes
    → asked_of (answers ++ answer ∷ []) (changes ++ change ∷ []) ≡ asked_of answers changes ++ record { change = change; answer = answer } ∷ []
unfolding asked_of
asked_more [] [] answer change same = refl
asked_more [] (y ∷ changes) answer change same = absurd (omega (arith, same))
asked_more (x ∷ answers) [] answer change same = absurd (omega (arith, same))
asked_more (x ∷ answers) (y ∷ changes) answer change same = ap (λ asked. record { change = y; answer = x } ∷ asked) (asked_more answers changes answer change (omega (arith, same)))

pub none_asked : (answers : List Answer) (changes : List Attempt) → answers ≡ [] → asked_of answers changes ≡ []
unfolding asked_of
none_asked answers changes none = ap (λ l. asked_of l changes) none

becomes : (old new : Cells) (change : Attempt) (answer : Answer) → Becomes old new (after_attempt old change) answer → new ≡ (if is_ok answer then after_attempt old change else old)
becomes old new change (Ok u) h = h
becomes old new change (Err e) h = h

-- ---- the change that is lost

is_memory : (e : BookError) → (e ≡ Memory) ⊎ (e ≢ Memory)
is_memory error.Exists = inr (λ e. cc)
is_memory error.Full = inr (λ e. cc)
is_memory error.Name = inr (λ e. cc)
is_memory error.Memory = inl refl
is_memory error.NoAccount = inr (λ e. cc)

-- a change that is refused behind it
behind_it : (asked : List Asked) (change : Attempt) (a : Asked) → is_done a ≡ false → IsUnderWay asked change → IsUnderWay (asked ++ a ∷ []) change
behind_it asked change a refused it = record {
  before = it.before;
  behind = it.behind ++ a ∷ [];
  all = ap (λ l. l ++ a ∷ []) it.all ∙ append_assoc it.before (record { change = change; answer = Err Memory } ∷ it.behind) (a ∷ []);
  none_done = list_any-append is_done it.behind (a ∷ []) ∙ (λ i. it.none_done i || (refused i || false));
}

-- the one that is lost now
lost_now : (asked : List Asked) (change : Attempt) (e : BookError) (l : Lost) → l.attempt ≡ change → (e ≡ Memory) ⊎ (e ≢ Memory) → (e ≢ Memory → Some l ≡ None) → IsUnderWay (asked ++ record { change = change; answer = Err e } ∷ []) l.attempt
lost_now asked change e l is (inl memory) kept = record {
  before = asked;
  behind = [];
  all = λ i. asked ++ record { change = sym is i; answer = Err (memory i) } ∷ [];
  none_done = refl;
}
lost_now asked change e l is (inr other) kept = absurd (let never = kept other in cc)

lost_by : (asked : List Asked) (change : Attempt) (answer : Answer) (was now : Option Lost) → OnOk answer ((was ≡ None) × (now ≡ None)) → IfErr answer (λ e. e ≢ Memory → now ≡ was)
    → IfSome was (λ l. now ≡ Some l) → (was ≡ None → IfSome now (λ l. l.attempt ≡ change))
    → IfSome was (λ l. IsUnderWay asked l.attempt) → IfSome now (λ l. IsUnderWay (asked ++ record { change = change; answer = answer } ∷ []) l.attempt)
lost_by asked change (Ok u) was now written refusal stays loses it = subst (λ n. IfSome n (λ l. IsUnderWay (asked ++ record { change = change; answer = Ok u } ∷ []) l.attempt)) (sym written.1) tt
lost_by asked change (Err e) (Some l) now written refusal stays loses it = subst (λ n. IfSome n (λ l. IsUnderWay (asked ++ record { change = change; answer = Err e } ∷ []) l.attempt)) (sym stays) (behind_it asked l.attempt (record { change = change; answer = Err e }) refl it)
lost_by asked change (Err e) None None written refusal stays loses it = tt
lost_by asked change (Err e) None (Some l) written refusal stays loses it = lost_now asked change e l (loses refl) (is_memory e) refusal

-- whatever error is told of the change that is lost
any_loss : (attempt : Attempt) (Fails : Error → Type 0) (now : Option Lost) → IfSome now (IsLossOf attempt Fails) → IfSome now (IsLossOf attempt (λ _. ⊤))
any_loss attempt Fails None it = tt
any_loss attempt Fails (Some l) it = record { attempt_is = it.attempt_is; error = tt }

pub called : {S : Type 0} (g : Ghosts S) (old new : Kept S) (change : Attempt) (answer : Answer) (Fails : Error → Type 0) → Remembers change Fails old new answer → LosesForMemory old new answer → WasClean g old new
    → IsCall g old new (record { change = change; answer = answer })
called g old new change answer Fails it refusal clean = record {
  remembers = record {
    made = it.made;
    written = it.written;
    loses = record { remembered = it.loses.remembered; lost = λ none. any_loss change Fails new.lost (it.loses.lost none) };
  };
  refusal = refusal;
  clean = clean;
}

attempt_of : (attempt : Attempt) (now : Option Lost) → IfSome now (IsLossOf attempt (λ _. ⊤)) → IfSome now (λ l. l.attempt ≡ attempt)
attempt_of attempt None it = tt
attempt_of attempt (Some l) it = it.attempt_is

module _ {S : Type 0} (g : Ghosts S) (first : Kept S) where
  pub one_more : (mid last : Kept S) (asked : List Asked) (a : Asked) → AreMade g first mid asked → IsCall g mid last a → AreMade g first last (asked ++ a ∷ [])
  one_more mid last asked a made call = record {
    book = becomes (cells mid) (cells last) a.change a.answer call.remembers.made ∙ ap (λ b. after_one b a) made.book ∙ sym (after_more (cells first) asked a);
    lost = λ whole. lost_by asked a.change a.answer mid.lost last.lost call.remembers.written call.refusal call.remembers.loses.remembered
        (λ none. attempt_of a.change last.lost (call.remembers.loses.lost none)) (made.lost whole);
    clean = omega (arith, made.clean, call.clean);
  }

  pub none_yet : AreMade g first first []
  unfolding after
  none_yet = record {
    book = refl;
    lost = λ whole. subst (λ n. IfSome n (λ l. IsUnderWay [] l.attempt)) (sym whole) tt;
    clean = omega arith;
  }

  many_more : (mid last : Kept S) (before asked : List Asked) → AreMade g first mid before → Follow g mid asked last → AreMade g first last (before ++ asked)
  unfolding Follow
  many_more mid last before [] made follow = subst (λ k. AreMade g first k (before ++ [])) (sym follow) (subst (λ l. AreMade g first mid l) (sym (append-nil before)) made)
  many_more mid last before (a ∷ asked) made follow =
      subst (λ l. AreMade g first last l) (append_assoc before (a ∷ []) asked) (many_more follow.0 last (before ++ a ∷ []) asked (one_more mid follow.0 before a made follow.1) follow.2)

  pub all_made : (last : Kept S) (asked : List Asked) → Follow g first asked last → AreMade g first last asked
  all_made last asked follow = many_more first last [] asked none_yet follow

-- what a crash leaves of the book that they made
left_by : (book now left : Cells) (asked : List Asked) (lost : Option Lost) → now ≡ after book asked → IfSome lost (λ l. IsUnderWay asked l.attempt) → IsOrWith now lost left → IsLeft book asked left
left_by book now left asked None is it h = inl (h ∙ is)
left_by book now left asked (Some l) is it (inl h) = inl (h ∙ is)
left_by book now left asked (Some l) is it (inr h) = inr (l.attempt, it, h ∙ ap (λ b. after_attempt b l.attempt) is)

pub left_of_made : {S : Type 0} (g : Ghosts S) (first last : Kept S) (asked : List Asked) (left : Cells) → AreMade g first last asked → first.lost ≡ None → IsOrWith (cells last) last.lost left → IsLeft (cells first) asked left
left_of_made g first last asked left made whole h = left_by (cells first) (cells last) left asked last.lost made.book (made.lost whole) h
