-- The names of a history are those of its book.
use Rattle.std.proofs.Common.{◌≡◌, ℕ, zero, suc, ◌+◌, ◌≤◌, List, [], ◌∷◌, ◌++◌, length, take, inl, inr, Option, Some, None, Bool, true, false, if◌then◌else◌, cond, nat_lt, ◌||◌, is_some, slice_get, refl, sym, ap, subst, ◌∙◌, arith}
use Rattle.std.proofs.{Math.Bool.or-false, Math.Bool.or_comm, lemmas.Bool.cases_lt, lemmas.Bool.cond_both, lemmas.List.Folds.list_any-append, lemmas.List.Sums.fold_push, lemmas.List.length-append, lemmas.List.length-map, lemmas.List.take-append-le, lemmas.List.take_all, lemmas.Map.Text.is_eq-slice_cmp, lemmas.Slice.Eq.bytes_eq-Decides}
use Rattle.std.specs.{Cmp.Lexicographic.nat_list_cmp_total, List.list_any, Ordering.eq_by_cmp, Str.bytes_eq}
use Rattle.cred_phc.specs.Values.{RecordValue}
use Rattle.cred_book.specs.{Accounts.Accounts, Names.name_cmp, Works.name_of, Works.seq, Works.seq_at, Works.whole, declared.request.Request.Request}
use Rattle.cred_cli.specs.History.{is_among, names_after, names_at, Opened, open_at, Deed, Admission, Loading, Whole, commit_deed, is_stale, deed_of, deeds_before, after, book_after, book_at}
use Rattle.cred_cli.specs.{declared.event.Event.Event, declared.event.Event.TheVariants.Account, declared.event.Event.TheVariants.Load, declared.event.Event.TheVariants.Commit}
use Rattle.std.specs.FinMap as map

-- the names are those of the book
pub record SameNames (names : List (List ℕ)) (book : Accounts) : Type 0 where
  pub among : (name : List ℕ) → map.contains_key book name ≡ is_among names name
  pub count : map.len book ≡ length names

any_agree : (p q : List ℕ → Bool) → ((x : List ℕ) → p x ≡ q x) → (xs : List (List ℕ)) → list_any p xs ≡ list_any q xs
any_agree p q same [] = refl
any_agree p q same (x ∷ xs) = ap (λ b. b || list_any p xs) (same x) ∙ ap (λ b. q x || b) (any_agree p q same xs)

pub any_more : (p : List ℕ → Bool) (xs : List (List ℕ)) (y : List ℕ) → list_any p (xs ++ y ∷ []) ≡ p y || list_any p xs
any_more p xs y = list_any-append p xs (y ∷ []) ∙ ap (λ b. list_any p xs || b) (or-false (p y)) ∙ or_comm (list_any p xs) (p y)

at_first : (book : Accounts) → SameNames (map.keys book) book
at_first book = record {
  among = λ name. map.contains_key-keys book name ∙ any_agree (eq_by_cmp name_cmp name) (bytes_eq name) (is_eq-slice_cmp name) (map.keys book);
  count = map.len-entries book ∙ sym (length-map (map.entries book) (λ (e : List ℕ × Option RecordValue). e.0));
}

-- what an insertion does to the names
contains_after : (book : Accounts) (name : List ℕ) (now : Option RecordValue) (q : List ℕ) → map.contains_key (map.insert book name now) q ≡ bytes_eq q name || map.contains_key book q
contains_after book name now q = ap is_some (map.get-insert nat_list_cmp_total book name now q) ∙ ap (λ b. is_some (cond b (Some now) (map.get book q))) (is_eq-slice_cmp q name) ∙ either (bytes_eq q name) (map.get book q)
  where
    either : (b : Bool) (found : Option (Option RecordValue)) → is_some (cond b (Some now) found) ≡ b || is_some found
    either true found = refl
    either false found = refl

admitted : (names : List (List ℕ)) (book : Accounts) (name : List ℕ) → SameNames names book → is_among names name ≡ false → SameNames (names ++ name ∷ []) (map.insert book name None)
admitted names book name same new = record {
  among = λ q. contains_after book name None q ∙ ap (λ b. bytes_eq q name || b) (same.among q) ∙ sym (any_more (bytes_eq q) names name);
  count = map.len-insert nat_list_cmp_total book name None ∙ ap (λ b. cond b (map.len book) (map.len book + 1)) (same.among name ∙ new) ∙ omega (arith, same.count, length-append names (name ∷ []));
}

put : (names : List (List ℕ)) (book : Accounts) (name : List ℕ) (now : Option RecordValue) → SameNames names book → is_among names name ≡ true → SameNames names (map.insert book name now)
put names book name now same there = record {
  among = λ q. contains_after book name now q ∙ known q (bytes_eq q name) refl;
  count = map.len-insert nat_list_cmp_total book name now ∙ ap (λ b. cond b (map.len book) (map.len book + 1)) (same.among name ∙ there) ∙ same.count;
}
  where
    known : (q : List ℕ) (b : Bool) → bytes_eq q name ≡ b → b || map.contains_key book q ≡ is_among names q
    known q true e = sym (ap (is_among names) ((bytes_eq-Decides q name).0 e) ∙ there)
    known q false e = same.among q

-- a whole operation leaves the names
whole_done : (names : List (List ℕ)) (book : Accounts) (request : Request) → SameNames names book → SameNames names (seq book request).1
unfolding seq
whole_done names book request same = by_entry (map.get book (name_of request)) refl
  where
    by_entry : (entry : Option (Option RecordValue)) → map.get book (name_of request) ≡ entry → SameNames names (seq_at book request entry).1
    by_entry None e = same
    by_entry (Some now) e = put names book (name_of request) (whole request now).1 same (sym (same.among (name_of request)) ∙ ap is_some e)

closed_one : (names : List (List ℕ)) (opening book : Accounts) (past : List (Option Deed)) (opened : Option Opened) → SameNames names book → SameNames names (after book (commit_deed opening past opened))
closed_one names opening book past None same = same
closed_one names opening book past (Some opened) same =
    cond_both (is_stale opening past opened) None (Some (Whole opened.request)) (λ deed. SameNames names (after book deed)) (λ stale. same) (λ fresh. whole_done names book opened.request same)

-- one event more
next : (capacity : ℕ) (opening book : Accounts) (events : List Event) (i : ℕ) (past : List (Option Deed)) (event : Option Event) → SameNames (names_at capacity opening events i) book →
    SameNames (names_after capacity (names_at capacity opening events i) event) (after book (deed_of capacity opening events i past event))
next capacity opening book events i past (Some (Commit key)) same = closed_one (names_at capacity opening events i) opening book past (open_at capacity opening events i key) same
next capacity opening book events i past (Some (Account name)) same = by_case (is_among (names_at capacity opening events i) name) refl (nat_lt (length (names_at capacity opening events i)) capacity)
  where
    by_case : (b : Bool) → is_among (names_at capacity opening events i) name ≡ b → (c : Bool) →
        SameNames (if b then names_at capacity opening events i else if c then names_at capacity opening events i ++ name ∷ [] else names_at capacity opening events i) (after book (if b then None else if c then Some (Admission name) else None))
    by_case true there c = same
    by_case false there true = admitted (names_at capacity opening events i) book name same there
    by_case false there false = same
next capacity opening book events i past (Some (Load name stored)) same =
    let names = names_at capacity opening events i in
    cond_both (is_among names name) (Some (Loading name stored)) None (λ deed. SameNames names (after book deed)) (put names book name (Some stored) same) (λ absent. same)
next capacity opening book events i past _ same = same

-- ---- the recursion on the place

pub names_at-suc : (capacity : ℕ) (book : Accounts) (events : List Event) (i : ℕ) → names_at capacity book events (suc i) ≡ names_after capacity (names_at capacity book events i) (slice_get events i)
unfolding names_at
names_at-suc capacity book events i = refl

pub book_at-zero : (capacity : ℕ) (book : Accounts) (events : List Event) → book_at capacity book events 0 ≡ book
unfolding deeds_before book_after
book_at-zero capacity book events = refl

pub book_at-suc : (capacity : ℕ) (book : Accounts) (events : List Event) (i : ℕ) → book_at capacity book events (suc i) ≡ after (book_at capacity book events i) (deed_of capacity book events i (deeds_before capacity book events i) (slice_get events i))
unfolding deeds_before book_after
book_at-suc capacity book events i = fold_push after book (deeds_before capacity book events i) _

-- the names at each place are those of the book there
pub same_names : (capacity : ℕ) (book : Accounts) (events : List Event) (i : ℕ) → SameNames (names_at capacity book events i) (book_at capacity book events i)
unfolding names_at deeds_before book_after
same_names capacity book events zero = at_first book
same_names capacity book events (suc i) = subst (SameNames (names_at capacity book events (suc i))) (sym (book_at-suc capacity book events i)) (next capacity book (book_at capacity book events i) events i (deeds_before capacity book events i) (slice_get events i) (same_names capacity book events i))

length-done : (capacity : ℕ) (book : Accounts) (events : List Event) (i : ℕ) → length (deeds_before capacity book events i) ≡ i
unfolding deeds_before
length-done capacity book events zero = refl
length-done capacity book events (suc i) = length-append (deeds_before capacity book events i) _ ∙ omega (arith, length-done capacity book events i)

-- a front of a history is the earlier history
pub take_done : (capacity : ℕ) (book : Accounts) (events : List Event) (j i : ℕ) → j ≤ i → take j (deeds_before capacity book events i) ≡ deeds_before capacity book events j
unfolding deeds_before
take_done capacity book events zero i le = refl
take_done capacity book events (suc j) zero le = absurd (omega (arith, le))
take_done capacity book events (suc j) (suc i) le = elim (cases_lt i (suc j)) [
  | inl last ↦
      let same : j ≡ i = omega (arith, last, le) in
      rw same (take_all (suc i) (deeds_before capacity book events (suc i)) (omega (arith, length-done capacity book events (suc i))))
  | inr earlier ↦
      take-append-le (suc j) (deeds_before capacity book events i) _ (omega (arith, earlier, length-done capacity book events i))
      ∙ take_done capacity book events (suc j) i earlier
]
