-- The effect of a read on a script: its start, the bytes that came, and its end.
use Rattle.std.proofs.Common.{◌≡◌, ℕ, ◌-◌, replicate, List, [], ◌++◌, take, Option, Some, None, IfSome, refl, sym, ap, ◌∙◌, append_assoc, arith}
use Rattle.std.proofs.{KnownBytes.Appends-nil, lemmas.List.get_or-replicate, lemmas.List.length-replicate}
use Rattle.std.specs.Io.KnownBytes.{Consumes, IsAtEnd, Keeps}
use Rattle.cred_book.specs.{Accounts.Accounts, Works.Task}
use Rattle.cred_cli.specs.{declared.progress.Progress.Progress, declared.event.Event.Event, Feeding.IsAt, Outcome.StandsAfter, Script.answers_before, Script.events_of, Script.script_start}
use Rattle.cred_cli.proofs.{Openings.open_at-zero, Names.book_at-zero}

pub nothing_done : (capacity : ℕ) (book : Accounts) (events : List Event) (before : Option (List ℕ)) → StandsAfter capacity book events 0 before before book
unfolding answers_before
nothing_done capacity book events before = record {
  written = Appends-nil before;
  accounts_are = sym (book_at-zero capacity book events);
}

-- no byte was taken
pub opening : (capacity : ℕ) (book : Accounts) (all : List ℕ) (before : Option (List ℕ)) (slots : List (Option Task)) (progress : Progress) → slots ≡ replicate 64 None → progress.start ≡ [] → progress.lines ≡ 0 → progress.taken ≡ 0 →
    IsAt capacity (script_start book all before) [] (record { written = before; accounts = book; slots = slots; progress = progress })
opening capacity book all before slots progress empty start lines taken = record {
  place = record {
    stands = nothing_done capacity book (events_of all) before;
    tickets = record {
      size = rw empty (length-replicate {A = Option Task} 64 None);
      each = λ key low high. rw (open_at-zero capacity book (events_of all) key, empty, get_or-replicate {A = Option Task} 64 (key - 1) None None (omega (arith, low, high))) tt;
    };
  };
  lines_are = lines;
  start_is = start;
  taken_is = taken;
}

-- the bytes that came, and those that are left
pub record HasCome (rest bytes : List ℕ) (now : Option (List ℕ)) : Type 0 where
  pub left : List ℕ
  pub now_is : now ≡ Some left
  pub cut : rest ≡ bytes ++ left

pub came : (old now : Option (List ℕ)) (rest bytes : List ℕ) → old ≡ Some rest → Consumes old now bytes → HasCome rest bytes now
came None now rest bytes known consumed = cc
came (Some xs) None rest bytes known consumed = absurd consumed
came (Some xs) (Some ys) rest bytes known consumed = record { left = ys; now_is = refl; cut = cc }

-- no byte is left
pub came_to_end : (old now : Option (List ℕ)) (rest buffer : List ℕ) (n : ℕ) → n ≡ 0 → old ≡ Some rest → Consumes old now (take n buffer) → IsAtEnd now → rest ≡ []
came_to_end None now rest buffer n none known consumed end = cc
came_to_end (Some xs) None rest buffer n none known consumed end = absurd consumed
came_to_end (Some xs) (Some ys) rest buffer n none known consumed end =
    let these : xs ≡ ys = rw none at consumed in
    cc

-- a read that failed took nothing
pub kept_left : (old now : Option (List ℕ)) (bytes front rest : List ℕ) → old ≡ Some rest → Keeps old now → bytes ≡ front ++ rest → Consumes (Some bytes) now front
kept_left None now bytes front rest known kept cut = cc
kept_left (Some xs) None bytes front rest known kept cut = absurd kept
kept_left (Some xs) (Some ys) bytes front rest known kept cut =
    let same : ys ≡ rest = cc in
    rw same cut

-- known bytes may be used as they are
pub if_known : (known : Option (List ℕ)) (P : List ℕ → Type 0) → ((all : List ℕ) → known ≡ Some all → P all) → IfSome known P
if_known None P h = tt
if_known (Some all) P h = h all refl

-- the cut moves behind the bytes that came
pub cut_behind : (all front rest bytes left : List ℕ) → all ≡ front ++ rest → rest ≡ bytes ++ left → all ≡ (front ++ bytes) ++ left
cut_behind all front rest bytes left cut came = cut ∙ ap (λ xs. front ++ xs) came ∙ sym (append_assoc front bytes left)
