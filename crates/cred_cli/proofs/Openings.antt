-- The open numbers, and the known facts about their begins.
use Rattle.std.proofs.Common.{◌≡◌, ℕ, zero, suc, ◌<◌, List, [], ◌∷◌, ◌++◌, length, Option, Some, None, true, ◌&&◌, if◌then◌else◌, is_none, nat_lt, slice_get, refl, sym, ap, ◌∙◌, arith}
use Rattle.std.proofs.lemmas.Bool.{and_parts, cond_both, or_right}
use Rattle.std.specs.{Bool.◌==◌, Str.bytes_eq}
use Rattle.cred_book.specs.{Accounts.Accounts, Works.name_of}
use Rattle.cred_cli.specs.{declared.event.Event.Event, declared.event.Event.TheVariants.Account, declared.event.Event.TheVariants.Begin, declared.event.Event.TheVariants.Commit, History.is_among, History.names_after, History.names_at, History.Opened, History.open_after, History.open_at}
use Rattle.cred_cli.proofs.Names.{names_at-suc, any_more}

pub open_at-zero : (capacity : ℕ) (book : Accounts) (events : List Event) (key : ℕ) → open_at capacity book events 0 key ≡ None
unfolding open_at
open_at-zero capacity book events key = refl

pub open_at-suc : (capacity : ℕ) (book : Accounts) (events : List Event) (i key : ℕ) → open_at capacity book events (suc i) key ≡ open_after (names_at capacity book events i) i key (open_at capacity book events i key) (slice_get events i)
unfolding open_at
open_at-suc capacity book events i key = refl

-- a name that is there stays
still_among : (capacity : ℕ) (names : List (List ℕ)) (event : Option Event) (name : List ℕ) → is_among names name ≡ true → is_among (names_after capacity names event) name ≡ true
still_among capacity names (Some (Account new)) name there =
    let more = any_more (bytes_eq name) names new ∙ or_right (bytes_eq name new) (is_among names name) there in
    cond_both (is_among names new) names (if nat_lt (length names) capacity then names ++ new ∷ [] else names) (λ ns. is_among ns name ≡ true) (λ known. there)
    (λ unknown. cond_both (nat_lt (length names) capacity) (names ++ new ∷ []) names (λ ns. is_among ns name ≡ true) (λ room. more) (λ full. there))
still_among capacity names _ name there = there

-- an open number's begin came before, and its name is there
pub record IsKnown (capacity : ℕ) (book : Accounts) (events : List Event) (i : ℕ) (opened : Opened) : Type 0 where
  pub earlier : opened.place < i
  pub there : is_among (names_at capacity book events i) (name_of opened.request) ≡ true

later : (capacity : ℕ) (book : Accounts) (events : List Event) (i : ℕ) (opened : Opened) → IsKnown capacity book events i opened → IsKnown capacity book events (suc i) opened
later capacity book events i opened known = record {
  earlier = omega (arith, known.earlier);
  there = ap (λ names. is_among names (name_of opened.request)) (names_at-suc capacity book events i) ∙ still_among capacity (names_at capacity book events i) (slice_get events i) (name_of opened.request) known.there;
}

-- what an event leaves open was open, or begins there
by_event : (capacity : ℕ) (book : Accounts) (events : List Event) (i key : ℕ) (opened : Opened) → ((o : Opened) → open_at capacity book events i key ≡ Some o → IsKnown capacity book events i o) → (event : Option Event) →
    open_after (names_at capacity book events i) i key (open_at capacity book events i key) event ≡ Some opened → IsKnown capacity book events (suc i) opened
by_event capacity book events i key opened known (Some (Commit k)) e =
    cond_both (k == key) None (open_at capacity book events i key) (λ o. o ≡ Some opened → IsKnown capacity book events (suc i) opened) (λ closed e. cc e)
    (λ other e. later capacity book events i opened (known opened e)) e
by_event capacity book events i key opened known (Some (Begin k request)) e =
    cond_both (k == key && (is_none (open_at capacity book events i key) && is_among (names_at capacity book events i) (name_of request))) (Some (record { place = i; request = request })) (open_at capacity book events i key)
    (λ o. o ≡ Some opened → IsKnown capacity book events (suc i) opened) begins (λ other e. later capacity book events i opened (known opened e)) e
  where
    begins : k == key && (is_none (open_at capacity book events i key) && is_among (names_at capacity book events i) (name_of request)) ≡ true
        → Some (record { place = i; request = request }) ≡ Some opened → IsKnown capacity book events (suc i) opened
    begins test e =
        let free = is_none (open_at capacity book events i key) in
        let there = is_among (names_at capacity book events i) (name_of request) in
        let among : there ≡ true = (and_parts free there (and_parts (k == key) (free && there) test).1).1 in
        let this : opened ≡ record { place = i; request = request } = cc in
        rw this (record {
          earlier = omega arith;
          there = ap (λ names. is_among names (name_of request)) (names_at-suc capacity book events i) ∙ still_among capacity (names_at capacity book events i) (slice_get events i) (name_of request) among;
        })
by_event capacity book events i key opened known _ e = later capacity book events i opened (known opened e)

pub known_at : (capacity : ℕ) (book : Accounts) (events : List Event) (i key : ℕ) (opened : Opened) → open_at capacity book events i key ≡ Some opened → IsKnown capacity book events i opened
known_at capacity book events zero key opened is = cc (sym is ∙ open_at-zero capacity book events key)
known_at capacity book events (suc i) key opened is =
    by_event capacity book events i key opened (λ o e. known_at capacity book events i key o e) (slice_get events i) (sym (open_at-suc capacity book events i key) ∙ is)
