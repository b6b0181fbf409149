-- The description of a service.
use Rattle.std.specs.Prelude.{◌≡◌, ℕ, zero, suc, List, [], ◌∷◌, ◌++◌, Option, Some, None, slice_get, codes, drop, map, take}
use Rattle.rand_core.specs.Stream.{Stream, fill_bytes}
use Rattle.cred_phc.specs.{Values.SettingValue, Values.setting_of, declared.setting.Scheme.Scheme, declared.setting.Scheme.TheVariants.Scrypt}
use Rattle.cred_admin.specs.Marked.{MarkedBook, marked_book}
use Rattle.cred_file.specs.Cells.{unmarked}
use Rattle.cred_cli.specs.{Costs.no_bounds, Script.line_ends, Script.lines_of, declared.costs.CostBounds.CostBounds}
use Rattle.cred_many.specs.{LineOperations.Entry, LineOperations.entry, LineOperations.entry_of, LineOperations.refused, Transcript.Written, Transcript.nothing_written, declared.service.ServiceConfig.ServiceConfig}
use Rattle.std.specs.FinMap as map
use Rattle.cred_cli.specs.declared.refusal.Refusal.TheVariants as refusal

-- the first book, the bytes that the reader will give, the visible state of the writer before, the
-- costs and the source of salts of drawn settings, the KiB of all hashes together, the bounds on
-- the costs of a line, and the number of tries that may fail at a name until the next has to wait,
-- if there is a limit
pub record Service : Type 0 where
  pub opening : MarkedBook
  pub input : Option (List ℕ)
  pub before : Written
  pub costs : Scheme
  pub salts : Stream
  pub memory : ℕ
  pub most : CostBounds
  pub tries : Option ℕ

abbrev pub service : MarkedBook → Option (List ℕ) → Written → ServiceConfig → Stream → Service
service opening input before config salts = record {
  opening = opening;
  input = input;
  before = before;
  costs = config.costs;
  salts = salts;
  memory = config.memory;
  most = config.most;
  tries = config.tries;
}

-- the rest of a source after so many salts of 16 bytes
abbrev pub salts_after : Stream → ℕ → Stream
salts_after first zero = first
salts_after first (suc n) = (fill_bytes 16 (salts_after first n)).1

-- the setting that is drawn for the line of this number
abbrev pub drawn_setting : Service → ℕ → SettingValue
drawn_setting s n = setting_of s.costs (fill_bytes 16 (salts_after s.salts n)).0

-- ---- what is asked

-- the entries of these lines, whose numbers begin with this one
unfoldable pub asked_from : Service → ℕ → List (List ℕ) → List Entry
asked_from s n [] = []
asked_from s n (line ∷ lines) =
    entry_of n s.most (drawn_setting s n) line ∷ asked_from s (suc n) lines

-- the values of the lines of these bytes, where the function changes that of a last line without an
-- end
unfoldable pub with_unended : {A : Type 0} → (A → A) → List ℕ → List A → List A
with_unended f bytes lines = take (line_ends bytes) lines ++ map f (drop (line_ends bytes) lines)

-- the last line, if it has no end: it is refused without a tag, since more than its end may be lost
abbrev pub cut_line : ℕ → Entry
cut_line number = entry number (codes "*") (refused refusal.Line)

-- the lines of an input
abbrev pub asked : Service → List ℕ → List Entry
asked s bytes = with_unended (λ e. cut_line e.number) bytes (asked_from s 0 (lines_of bytes))

-- the entry is the line of its number
abbrev pub IsLine : Service → List ℕ → Entry → Type 0
IsLine s bytes e = slice_get (asked s bytes) e.number ≡ Some e

-- ---- none

-- a service that nobody asks
abbrev pub no_service : Service
no_service = record {
  opening = marked_book map.empty (λ _. unmarked);
  input = None;
  before = nothing_written;
  costs = Scrypt 1 1 1;
  salts = record {
    u32_after = λ _. 0;
    u64_after = λ _. 0;
    bytes_after = λ _ _. [];
  };
  memory = 0;
  most = no_bounds;
  tries = None;
}
