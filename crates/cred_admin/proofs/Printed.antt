-- Texts that are written a line at a time, in pieces.
use Rattle.std.proofs.Common.{◌≡◌, inl, inr, ℕ, ◌<◌, Option, List, [], ◌∷◌, ◌++◌, length, take, sym, ap, subst, ◌∙◌, arith, append_assoc, append-nil}
use Rattle.std.proofs.{lemmas.List.Concat.flat_map-append, lemmas.List.flat_map_more, lemmas.List.length-append, Math.Seq.take-append_seam, KnownBytes.Appends-nil, KnownBytes.Appends-trans}
use Rattle.std.specs.{Io.KnownBytes.Appends, List.flat_map}
use Rattle.cred_cli.specs.Outcome.{FrontWritten}
use Rattle.cred_cli.proofs.Writes.{front_behind, front_more}
use Rattle.cred_admin.specs.Listing.{Entry, IsPiece}

-- the lines of the first entries are written, those of the next are kept, and some entries are left
pub record Goes (line : Entry → List ℕ) (all rest : List Entry) (before now : Option (List ℕ)) (text : List ℕ) : Type 0 where
  pub first : List Entry
  pub next : List Entry
  pub cut : all ≡ first ++ (next ++ rest)
  pub written : Appends before now (flat_map line first)
  pub kept : text ≡ flat_map line next

pub begun : (line : Entry → List ℕ) (all rest : List Entry) (before : Option (List ℕ)) (text : List ℕ) → rest ≡ all → text ≡ [] → Goes line all rest before before text
begun line all rest before text is none = record {
  first = [];
  next = [];
  cut = sym is;
  written = Appends-nil before;
  kept = none;
}

pub pushed : (line : Entry → List ℕ) (all rest left : List Entry) (e : Entry) (before now : Option (List ℕ)) (text new : List ℕ) → Goes line all rest before now text → rest ≡ e ∷ left → new ≡ text ++ line e
    → Goes line all left before now new
pushed line all rest left e before now text new goes is more = record {
  first = goes.first;
  next = goes.next ++ e ∷ [];
  cut = goes.cut ∙ ap (λ r. goes.first ++ (goes.next ++ r)) is ∙ ap (λ r. goes.first ++ r) (sym (append_assoc goes.next (e ∷ []) left));
  written = goes.written;
  kept = more ∙ ap (λ t. t ++ line e) goes.kept ∙ flat_map_more line [] goes.next e;
}

-- those that were kept are written too
all_written : (line : Entry → List ℕ) (all rest : List Entry) (before now new : Option (List ℕ)) (text : List ℕ) (goes : Goes line all rest before now text) → Appends now new text
    → Appends before new (flat_map line (goes.first ++ goes.next))
all_written line all rest before now new text goes more =
    subst (Appends before new) (ap (λ t. flat_map line goes.first ++ t) goes.kept ∙ sym (flat_map-append line goes.first goes.next)) (Appends-trans before now new (flat_map line goes.first) text goes.written more)

pub piece : (line : Entry → List ℕ) (all rest : List Entry) (before now new : Option (List ℕ)) (text left : List ℕ) → Goes line all rest before now text → IsPiece now new text left → Goes line all rest before new left
piece line all rest before now new text left goes (inl (more, none)) = record {
  first = goes.first ++ goes.next;
  next = [];
  cut = goes.cut ∙ sym (append_assoc goes.first goes.next rest);
  written = all_written line all rest before now new text goes more;
  kept = none;
}
piece line all rest before now new text left goes (inr (stays, same)) = record {
  first = goes.first;
  next = goes.next;
  cut = goes.cut;
  written = subst (λ n. Appends before n (flat_map line goes.first)) (sym stays) goes.written;
  kept = same ∙ goes.kept;
}

pub ended : (line : Entry → List ℕ) (all rest : List Entry) (before now new : Option (List ℕ)) (text : List ℕ) → Goes line all rest before now text → rest ≡ [] → Appends now new text
    → Appends before new (flat_map line all)
ended line all rest before now new text goes none more =
    subst (λ es. Appends before new (flat_map line es))
    (sym (goes.cut ∙ ap (λ r. goes.first ++ (goes.next ++ r)) none ∙ ap (λ r. goes.first ++ r) (append-nil goes.next)))
    (all_written line all rest before now new text goes more)

-- a piece of which only a front was written
pub broken : (line : Entry → List ℕ) (all rest : List Entry) (before now new : Option (List ℕ)) (text : List ℕ) → Goes line all rest before now text → FrontWritten now new text
    → FrontWritten before new (flat_map line all)
broken line all rest before now new text goes more =
    subst (FrontWritten before new)
    (sym (ap (flat_map line) goes.cut ∙ flat_map-append line goes.first (goes.next ++ rest) ∙ ap (λ t. flat_map line goes.first ++ t) (flat_map-append line goes.next rest ∙ ap (λ t. t ++ flat_map line rest) (sym goes.kept))))
    (front_behind before now new (flat_map line goes.first) (text ++ flat_map line rest) goes.written (front_more now new text (flat_map line rest) more))

-- there was no memory for the next line
pub no_room : (line : Entry → List ℕ) (all rest left : List Entry) (e : Entry) (before now : Option (List ℕ)) (text : List ℕ) → Goes line all rest before now text → rest ≡ e ∷ left
    → (n : ℕ) × (n < length all) × Appends before now (flat_map line (take n all))
no_room line all rest left e before now text goes is = (
  length goes.first,
  omega (arith, ap length goes.cut, length-append goes.first (goes.next ++ rest), length-append goes.next rest, ap length is),
  subst (λ es. Appends before now (flat_map line es)) (sym (ap (take (length goes.first)) goes.cut ∙ take-append_seam goes.first (goes.next ++ rest))) goes.written,
)
