-- A line that comes, or whose hash comes back, has its turn.
use Rattle.std.proofs.Common.{◌≡◌, ◌≢◌, ◌+◌, ◌-◌, ◌<◌, ◌≤◌, ℕ, suc, List, [], ◌∷◌, ◌++◌, Bool, true, false, if◌then◌else◌, Option, None, IfSome, length, Some, get_or, set, slice_get, option_map, subst, refl, sym, ap, ◌∙◌, arith, drop, take}
use Rattle.std.proofs.{lemmas.Bool.Decides.Decides-eqb, lemmas.Bool.and_parts, lemmas.Bool.cond_both, lemmas.List.drop-set-lt, lemmas.List.get_or-append-add, lemmas.List.length-append, lemmas.List.length-map, lemmas.List.map-append, lemmas.List.take-set, lemmas.Option.get_or_from_slice_get, lemmas.Option.slice_get-get_or, lemmas.Option.slice_get-map, lemmas.Option.slice_get_within, lemmas.Slice.Eq.bytes_eq-Decides}
use Rattle.std.proofs.lemmas.List.Elements.{All-head, All-tail}
use Rattle.std.proofs.lemmas.List.Sums.{sum_by-append, sum_by-cons, sum_by-remove, sum_by-set}
use Rattle.std.specs.{Bool.◌==◌, List.remove, List.sum_by, Str.bytes_eq}
use Rattle.cred_phc.specs.Values.{RecordValue}
use Rattle.cred_book.specs.Works.{same}
use Rattle.cred_book.proofs.Equality.{same-Decides}
use Rattle.cred_many.specs.{Scribe.HasSeen, Scribe.IsAnswered, Scribe.IsLooked, Scribe.IsPending, Scribe.IsReady, Scribe.Notes, Scribe.counted, Scribe.is_sight, Scribe.numbers, Scribe.unseen, Served.tries, declared.fault.ServiceFault.ServiceFault, declared.open.Open.Open, declared.open.Sight.Sight}
use Rattle.cred_many.specs.Turns.{Call, Follow, IsCall, KeepsTurns, OpenOthers, UsesTurn, has_number, open_after, seen_by, turns_left, turns_of, with_opened, works_of}
use Rattle.cred_many.proofs.Serving.{answered_at}

-- the lines that are pending with one more
more_numbers : (left more : List Open) (n : ℕ) → more ≡ left ++ unseen n ∷ [] → numbers more ≡ numbers left ++ n ∷ []
more_numbers left more n is = ap numbers is ∙ map-append (λ (o : Open). o.number) left (unseen n ∷ [])

slice_get_last : {A : Type 0} (left : List A) (o : A) → slice_get (left ++ o ∷ []) (length left) ≡ Some o
slice_get_last left o =
    let long = length-append left (o ∷ []) in
    subst (λ k. slice_get (left ++ o ∷ []) k ≡ Some o) (omega arith) (slice_get-get_or (left ++ o ∷ []) (length left + 0) o (omega (arith, long)) ∙ ap Some (get_or-append-add left (o ∷ []) 0 o))

-- the last of them is ready
pub opened_ready : (why : Option ServiceFault) (left more : List Open) (n place : ℕ) → why ≡ None → more ≡ left ++ unseen n ∷ [] → place ≡ length left → IsReady why more place n
opened_ready why left more n place going is last = record {
  going = going;
  within = let long = length-append left (unseen n ∷ []) in rw (is, last) (omega (arith, long));
  there = rw (more_numbers left more n is, last, sym (length-map left (λ (o : Open). o.number))) (slice_get_last (numbers left) n);
}

-- a line that just came is answered
pub taken : (n place : ℕ) (left more new : List Open) (was : Option ServiceFault) → more ≡ left ++ unseen n ∷ [] → IsReady was more place n → new ≡ remove more place → IsAnswered n (numbers left ++ n ∷ []) (numbers new)
taken n place left more new was is ready closed = subst (λ ns. IsAnswered n ns (numbers new)) (more_numbers left more n is) (answered_at more new place n ready.there closed)

-- ---- how often a line may still be hashed

turns_of_other : (m n : ℕ) (a b : Option Sight) → seen_by a ≤ seen_by b → turns_of m (record { number = n; sight = b }) ≤ turns_of m (record { number = n; sight = a })
turns_of_other m n a b more = cond_both (n == m) (suc (tries - seen_by b)) 0 (λ t. t ≤ turns_of m (record { number = n; sight = a })) (λ is. rw is (omega (arith, more))) (λ is. omega arith)

turns_of_own : (n : ℕ) (s : Option Sight) → turns_of n (record { number = n; sight = s }) ≡ suc (tries - seen_by s)
turns_of_own n s = rw ((Decides-eqb n n).1 refl) refl

module _ (left : List Open) (place : ℕ) (line : Open) (there : slice_get left place ≡ Some line) where
  within : place < length left
  within = slice_get_within left place line there

  here : get_or left place line ≡ line
  here = get_or_from_slice_get left place line line there

  -- without this line
  fewer_without : (m : ℕ) → turns_left m (remove left place) + turns_of m line ≡ turns_left m left
  unfolding turns_left
  fewer_without m = subst (λ o. sum_by (turns_of m) (remove left place) + turns_of m o ≡ sum_by (turns_of m) left) here (sum_by-remove (turns_of m) left place line within)

  -- with another line in its place
  changed_at : (m : ℕ) (y : Open) → turns_left m (set left place y) + turns_of m line ≡ turns_left m left + turns_of m y
  unfolding turns_left
  changed_at m y = subst (λ o. sum_by (turns_of m) (set left place y) + turns_of m o ≡ sum_by (turns_of m) left + turns_of m y) here (sum_by-set (turns_of m) left place y line within)

  -- the line is closed
  pub closed_uses : (new : List Open) → new ≡ remove left place → UsesTurn line.number left new
  closed_uses new is = record {
    fewer = let own : turns_of line.number line ≡ suc (tries - seen_by line.sight) = turns_of_own line.number line.sight in let sum = fewer_without line.number in rw is (omega (arith, own, sum));
    others = λ m. let sum = fewer_without m in rw is (omega (arith, sum));
  }

  -- the line has seen more
  seen_more : (new : List Open) (b : Option Sight) → new ≡ set left place (record { number = line.number; sight = b }) → seen_by line.sight ≤ seen_by b → KeepsTurns left new
  seen_more new b is more = λ m.
      let sum = changed_at m (record { number = line.number; sight = b }) in
      let fewer : turns_of m (record { number = line.number; sight = b }) ≤ turns_of m line = turns_of_other m line.number line.sight b more in
      rw is (omega (arith, sum, fewer))

  sees_more : (new : List Open) (b : Option Sight) → new ≡ set left place (record { number = line.number; sight = b }) → seen_by line.sight < seen_by b → seen_by b < tries → UsesTurn line.number left new
  sees_more new b is more few = record {
    fewer =
        let sum = changed_at line.number (record { number = line.number; sight = b }) in
        let old : turns_of line.number line ≡ suc (tries - seen_by line.sight) = turns_of_own line.number line.sight in
        let now = turns_of_own line.number b in
        rw is (omega (arith, sum, old, now, more, few));
    others = seen_more new b is (omega (arith, more));
  }

-- the open line at a place
pub line_at_place : (left : List Open) (place n : ℕ) → slice_get (numbers left) place ≡ Some n → (line : Open) × (slice_get left place ≡ Some line) × (line.number ≡ n)
line_at_place left place n there =
    let short = slice_get_within (numbers left) place n there in
    let many = length-map left (λ (o : Open). o.number) in
    let line = get_or left place (unseen n) in
    let here : slice_get left place ≡ Some line = slice_get-get_or left place (unseen n) (omega (arith, short, many)) in
    let same : Some line.number ≡ Some n = sym (slice_get-map (λ (o : Open). o.number) left place ∙ ap (option_map (λ (o : Open). o.number)) here) ∙ there in
    (line, here, cc)

-- a ready line is closed
pub closed_turn : (left new : List Open) (place n : ℕ) → slice_get (numbers left) place ≡ Some n → new ≡ remove left place → UsesTurn n left new
closed_turn left new place n there is = let (line, here, same) = line_at_place left place n there in subst (λ n. UsesTurn n left new) same (closed_uses left place line here new is)

-- so the line wins no turn
pub closed_keeps : (left new : List Open) (place n : ℕ) → slice_get (numbers left) place ≡ Some n → new ≡ remove left place → KeepsTurns left new
closed_keeps left new place n there is = (closed_turn left new place n there is).others

pub keeps_same : (left new : List Open) → new ≡ left → KeepsTurns left new
keeps_same left new is = λ m. rw is (omega arith)

-- a line that isn't open has no turn
no_turns : (n : ℕ) (left : List Open) → (IsPending n (numbers left) → ⊥) → turns_left n left ≡ 0
unfolding turns_left
no_turns n [] none = refl
no_turns n (o ∷ os) none =
    let rest = no_turns n os (λ w. none (suc w.0, w.1)) in
    let here : turns_of n o ≡ 0 = cond_both (o.number == n) (suc (tries - seen_by o.sight)) 0 (λ t. t ≡ 0) (λ is. absurd (none (0, ap Some ((Decides-eqb o.number n).0 is)))) (λ is. refl) in
    omega (arith, sum_by-cons (turns_of n) o os, rest, here)

pub absent_turn : (n : ℕ) (left new : List Open) → (IsPending n (numbers left) → ⊥) → new ≡ left → UsesTurn n left new
absent_turn n left new none is = record {
  fewer = let zero = no_turns n left none in rw is (omega (arith, zero));
  others = keeps_same left new is;
}

-- the line that was opened last is looked at for the first time
pub first_look : (n place : ℕ) (left more new : List Open) (name : List ℕ) (now : Option RecordValue) → more ≡ left ++ unseen n ∷ [] → place ≡ length left → IsLooked more place name now new → KeepsTurns more new
first_look n place left more new name now is last (count, few, l) =
    let here : slice_get more place ≡ Some (unseen n) = rw (is, last) (slice_get_last left (unseen n)) in
    let line : l.line ≡ unseen n = let both : Some l.line ≡ Some (unseen n) = sym l.there ∙ here in cc in
    seen_more more place l.line l.there new _ l.new_is (rw line (omega arith))

different : (a now copy : Option RecordValue) → a ≡ copy → same now copy ≡ false → same a now ≡ false
different a now copy is moved = of (same a now) refl
  where
    of : (b : Bool) → same a now ≡ b → same a now ≡ false
    of false is_not = is_not
    of true same_is = let alike : same now copy ≡ true = (same-Decides now copy).1 (sym ((same-Decides a now).0 same_is) ∙ is) in absurd cc

counted_once : (s : Sight) (name : List ℕ) (now copy : Option RecordValue) → s.name ≡ name → s.stored ≡ copy → same now copy ≡ false → counted (Some s) name now ≡ s.changes + 1
counted_once s name now copy named stored moved = rw ((bytes_eq-Decides s.name name).1 named, different s.stored now copy stored moved) refl

-- a line that is given up at its last look is closed as it was
pub closed_looked : (left between new : List Open) (place count : ℕ) (name : List ℕ) (now : Option RecordValue) → Notes left place name now between count → new ≡ remove between place → new ≡ remove left place
closed_looked left between new place count name now l is =
    let y : Open = record { number = l.line.number; sight = Some (record { name = name; stored = now; changes = count }) } in
    is ∙ ap (λ b. remove b place) l.new_is ∙ ap (λ front. front ++ drop (suc place) (set left place y)) (take-set left place y) ∙ ap (λ back. take place left ++ back) (drop-set-lt (suc place) left place y (omega arith))

seen_counted : (o : Option Sight) (name : List ℕ) (now copy : Option RecordValue) → is_sight o name copy ≡ true → same now copy ≡ false → counted o name now ≡ seen_by o + 1
seen_counted None name now copy is moved = absurd cc
seen_counted (Some s) name now copy is moved =
    let both = and_parts (bytes_eq s.name name) (same s.stored copy) is in
    counted_once s name now copy ((bytes_eq-Decides s.name name).0 both.0) ((same-Decides s.stored copy).0 both.1) moved

-- the record isn't the one that the line has seen
pub looked_turn : (n place : ℕ) (left new : List Open) (name : List ℕ) (now copy : Option RecordValue) → slice_get (numbers left) place ≡ Some n → HasSeen left place name copy true → same now copy ≡ false → IsLooked left place name now new → UsesTurn n left new
looked_turn n place left new name now copy there saw moved (count, few, l) =
    let same_line : saw.line ≡ l.line = let both : Some saw.line ≡ Some l.line = sym saw.there ∙ l.there in cc in
    let (line, here, number) = line_at_place left place n there in
    let own : l.line ≡ line = let both : Some l.line ≡ Some line = sym l.there ∙ here in cc in
    let seen = seen_counted l.line.sight name now copy (sym (subst (λ (o : Open). true ≡ is_sight o.sight name copy) same_line saw.is_seen)) moved in
    let many = l.all few in
    let more : seen_by l.line.sight < count = omega (arith, seen, many) in
    subst (λ n. UsesTurn n left new) (ap (λ (o : Open). o.number) own ∙ number) (sees_more left place l.line l.there new _ l.new_is more few)

-- ---- a call on a line that is ready

module _ (left new : List Open) (place n : ℕ) (why : Option ServiceFault) (there : slice_get (numbers left) place ≡ Some n) where
  pub answered_turn : (why ≡ None → new ≡ remove left place) → IsPending n (numbers left) → why ≡ None → IsAnswered n (numbers left) (numbers new)
  answered_turn closed pending going = answered_at left new place n there (closed going)

  pub ready_turn : (why ≡ None → new ≡ remove left place) → why ≡ None → UsesTurn n left new
  ready_turn closed going = closed_turn left new place n there (closed going)

  pub either_turn : {A : Type 0} (o : Option A) → (o ≡ None → why ≡ None → new ≡ remove left place) → IfSome o (λ _. UsesTurn n left new) → why ≡ None → UsesTurn n left new
  either_turn None closed again going = ready_turn (closed refl) going
  either_turn (Some job) closed again going = again

-- a line that just came wins no turn
pub opened_closed : (left more new : List Open) (place n : ℕ) (was : Option ServiceFault) → more ≡ left ++ unseen n ∷ [] → IsReady was more place n → new ≡ remove more place → KeepsTurns (left ++ unseen n ∷ []) new
opened_closed left more new place n was is ready closed = subst (λ m. KeepsTurns m new) is (closed_keeps more new place n ready.there closed)

pub opened_keeps : {A : Type 0} (o : Option A) (left more new : List Open) (place n : ℕ) (name : List ℕ) (now : Option RecordValue) (was : Option ServiceFault) → more ≡ left ++ unseen n ∷ [] → IsReady was more place n → place ≡ length left
    → (o ≡ None → new ≡ remove more place) → IfSome o (λ _. IsLooked more place name now new) → KeepsTurns (left ++ unseen n ∷ []) new
opened_keeps None left more new place n name now was is ready last closed looked = opened_closed left more new place n was is ready (closed refl)
opened_keeps (Some job) left more new place n name now was is ready last closed looked = subst (λ m. KeepsTurns m new) is (first_look n place left more new name now is last looked)

pub some_pending : (ns : List ℕ) (place n : ℕ) → slice_get ns place ≡ Some n → ns ≢ []
some_pending ns place n there none = let within = slice_get_within ns place n there in let long = ap length none in omega (arith, within, long)

-- ---- calls, one after another

-- an open line has a turn
pending_turn : (n : ℕ) (left : List Open) → IsPending n (numbers left) → 1 ≤ turns_left n left
pending_turn n left (place, there) =
    let (line, here, same) = line_at_place left place n there in
    let own : turns_of line.number line ≡ suc (tries - seen_by line.sight) = turns_of_own line.number line.sight in
    let sum = fewer_without left place line here line.number in
    subst (λ m. 1 ≤ turns_left m left) same (omega (arith, own, sum))

opened_turns : (n : ℕ) (left : List Open) → (IsPending n (numbers left) → ⊥) → turns_left n (left ++ unseen n ∷ []) ≡ 9
unfolding turns_left
opened_turns n left none =
    let zero = no_turns n left none in
    let own = turns_of_own n None in
    let one = sum_by-cons (turns_of n) (unseen n) [] in
    omega (arith, zero, own, one, sum_by-append (turns_of n) left (unseen n ∷ []))

other_turns : (n m : ℕ) (left : List Open) → (m ≡ n → ⊥) → turns_left n (left ++ unseen m ∷ []) ≡ turns_left n left
unfolding turns_left
other_turns n m left other =
    let none : turns_of n (unseen m) ≡ 0 = cond_both (m == n) (suc (tries - seen_by None)) 0 (λ t. t ≡ 0) (λ is. absurd (other ((Decides-eqb m n).0 is))) (λ is. refl) in
    let one = sum_by-cons (turns_of n) (unseen m) [] in
    omega (arith, none, one, sum_by-append (turns_of n) left (unseen m ∷ []))

with_other : (n : ℕ) (left : List Open) (o : Option ℕ) → (o ≡ Some n → ⊥) → turns_left n (with_opened left o) ≡ turns_left n left
with_other n left None other = refl
with_other n left (Some m) other = other_turns n m left (λ is. other (ap Some is))

module _ (number : ℕ) where
  used_by : (old : List Open) (call : Call) (b : Bool) → has_number number call.works ≡ b → IsCall old call → call.opens ≢ Some number → turns_left number call.after ≤ turns_left number old - (if b then 1 else 0)
  used_by old call true has is other = let same = with_other number old call.opens other in let fewer = is.fewer number has in omega (arith, same, fewer)
  used_by old call false has is other = let same = with_other number old call.opens other in let keeps = is.keeps number in omega (arith, same, keeps)

  used_up : (old : List Open) (calls : List Call) → Follow old calls → OpenOthers number calls → turns_left number (open_after old calls) ≤ turns_left number old - works_of number calls
  used_up old [] follow others = omega arith
  used_up old (call ∷ calls) follow others =
      let one = used_by old call _ refl follow.0 (All-head (λ (c : Call). c.opens ≢ Some number) call calls others) in
      let rest = used_up call.after calls follow.1 (All-tail (λ (c : Call). c.opens ≢ Some number) call calls others) in
      omega (arith, one, rest)

pub nine_turns : (old : List Open) (came : Call) (calls : List Call) (number : ℕ) → (IsPending number (numbers old) → ⊥) → came.opens ≡ Some number → Follow old (came ∷ calls) → OpenOthers number calls → 9 ≤ works_of number calls
    → IsPending number (numbers (open_after came.after calls)) → ⊥
nine_turns old came calls number new opens follow others nine pending =
    let nine_left : turns_left number (with_opened old came.opens) ≡ 9 = rw opens (opened_turns number old new) in
    let keeps = follow.0.keeps number in
    let rest = used_up number came.after calls follow.1 others in
    let one = pending_turn number (open_after came.after calls) pending in
    omega (arith, nine_left, keeps, rest, nine, one)
