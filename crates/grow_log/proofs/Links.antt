-- Links, and the entries of them.
use Rattle.std.proofs.Common.{◌≡◌, ℕ, List, [], ◌∷◌, ◌++◌, Option, Some, None, refl, ap, sym, ◌∙◌}
use mathlib.Core.List.{IsPrefix}
use Rattle.grow_log.specs.{declared.link.Link.Link, Links.entries_of, Links.link, Links.place_after, Links.with_entries}

with_append : {T : Type 0} (entry : Option T) (xs ys : List T) → with_entries entry (xs ++ ys) ≡ with_entries entry xs ++ ys
with_append None xs ys = refl
with_append (Some entry) xs ys = refl

pub entries_append : {T : Type 0} (xs ys : List (Link T)) → entries_of (xs ++ ys) ≡ entries_of xs ++ entries_of ys
entries_append [] ys = refl
entries_append (x ∷ xs) ys = ap (with_entries x.entry) (entries_append xs ys) ∙ with_append x.entry (entries_of xs) (entries_of ys)

-- a link with an entry adds it
pub entries_snoc : {T : Type 0} (links : List (Link T)) (entry : T) (next : ℕ) → entries_of (links ++ link (Some entry) next ∷ []) ≡ entries_of links ++ entry ∷ []
entries_snoc links entry next = entries_append links (link (Some entry) next ∷ [])

-- and names the place after it
pub place_snoc : {T : Type 0} (place : ℕ) (links : List (Link T)) (new : Link T) → place_after place (links ++ new ∷ []) ≡ new.next
place_snoc place [] new = refl
place_snoc place (l ∷ links) new = place_snoc l.next links new

pub entries_prefix : {T : Type 0} (xs ys : List (Link T)) → IsPrefix xs ys → IsPrefix (entries_of xs) (entries_of ys)
entries_prefix xs ys p = (entries_of p.0, sym (entries_append xs p.0) ∙ ap entries_of p.1)
