-- The meaning of the texts.
use Rattle.std.proofs.Common.{◌≡◌, ℕ, inl, inr, pos, negsuc, List, [], ◌∷◌, codes, false, None, Ok, refl, sym, subst}
use Rattle.sqlite.specs.Term.{Term, lit, col, op2}
use Rattle.sqlite.specs.Command.TheVariants.{Insert, Select, CreateTable, Update, Delete}
use Rattle.sqlite.specs.{Compile.table_defined_by, Change.created, Listing.understood, Listing.reads_listing}
use Rattle.sqlite.specs.{declared.types.Value.TheVariants.Null, declared.types.Value.TheVariants.Int, Query.Query, Query.inner, Query.end}
use Rattle.sqlite.specs.{Source.TheVariants.Values, Schema.Schema}
use Rattle.sqlite_tied.specs.Compute.{everything}
use Rattle.sqlite_schema.specs.declared.command.Command.{Command}
use Rattle.sqlite.proofs.Callers.{IsPlain, command_of, statement_of}
use Rattle.sqlite_value.specs.{declared.keys.Collation.TheVariants.Binary, Keys.ascending}
use Rattle.sqlite_sql.specs.{declared.ops.BinaryOp.TheVariants.Compare, declared.ops.CompareOp.TheVariants.Eq}
use Rattle.cred_file.specs.Schema.{IsBookSchema, account, book_schema, create_text, delete_text, insert_text, no_schema, rename_text, statistics, statistics_text, update_text}
use Rattle.cred_file.specs.Opening.{rows_text}

-- what holds with and without the statistics
pub of_book : (P : Schema → Type 0) → P (book_schema []) → P (book_schema (statistics ∷ [])) → (s : Schema) → IsBookSchema s → P s
of_book P alone beside s is = elim is.tables [
  | inl tables ↦ let whole : s ≡ book_schema [] = (λ i. record { tables = tables i; indexes = is.indexes i; views = is.views i }) in subst P (sym whole) alone
  | inr tables ↦ let whole : s ≡ book_schema (statistics ∷ []) = (λ i. record { tables = tables i; indexes = is.indexes i; views = is.views i }) in subst P (sym whole) beside
]

-- the text gives this command, which returns no rows and doesn't read the time
abbrev pub Means : Schema → List ℕ → Command → Type 0
Means s text command = (command_of (understood s text) ≡ command) × IsPlain (understood s text)

-- the statistics are what SQLite's text defines, in the third tree
pub statistics_is : table_defined_by statistics_text ≡ Ok (record statistics { tree = 0 })
unfolding understood everything
statistics_is = refl

pub create_is : (command_of (understood no_schema create_text) ≡ CreateTable) × (statement_of create_text (understood no_schema create_text) ≡ create_text) × (table_defined_by create_text ≡ Ok account)
unfolding understood everything
create_is = (refl, refl, refl)

pub created_is : created no_schema account ≡ book_schema []
unfolding understood everything
created_is = refl

abbrev pub matched : Query
matched = record {
  from = inner 0 end;
  filter = op2 (Compare Eq Binary) (col 1 1) (col 0 0) ∷ [];
  group = None;
  project = col 1 0 ∷ col 1 0 ∷ col 1 1 ∷ col 0 1 ∷ [];
  distinct = false;
  collations = [];
  order = [];
  limit = lit (Int (negsuc 0));
  offset = lit (Int (pos 0));
}

pub update_is : (s : Schema) → IsBookSchema s → Means s update_text (Update 0 (record { lets = []; body = matched }))
unfolding understood everything
update_is = of_book (λ s. Means s update_text (Update 0 (record { lets = []; body = matched }))) (refl, (refl, refl)) (refl, (refl, refl))

abbrev pub terms : List Term
terms = lit Null ∷ col 0 0 ∷ col 0 1 ∷ []

pub insert_is : (s : Schema) → IsBookSchema s → Means s insert_text (Insert 0 (Values terms 3))
unfolding understood everything
insert_is = of_book (λ s. Means s insert_text (Insert 0 (Values terms 3))) (refl, (refl, refl)) (refl, (refl, refl))

abbrev pub all_rows : Query
all_rows = record matched { filter = []; project = col 1 0 ∷ col 1 1 ∷ col 1 2 ∷ []; order = (col 1 0, ascending Binary) ∷ [] }

pub rows_is : (s : Schema) → IsBookSchema s → command_of (understood s rows_text) ≡ Select (record { lets = []; body = all_rows }) (codes "rowid" ∷ codes "name" ∷ codes "record" ∷ [])
unfolding understood everything
rows_is = of_book (λ s. command_of (understood s rows_text) ≡ Select (record { lets = []; body = all_rows }) (codes "rowid" ∷ codes "name" ∷ codes "record" ∷ [])) refl refl

pub rows_listed : (s : Schema) → IsBookSchema s → reads_listing s rows_text ≡ false
unfolding understood everything
rows_listed = of_book (λ s. reads_listing s rows_text ≡ false) refl refl

pub rows_plain : (s : Schema) → IsBookSchema s → IsPlain (understood s rows_text)
unfolding understood everything
rows_plain = of_book (λ s. IsPlain (understood s rows_text)) (refl, refl) (refl, refl)

pub create_plain : IsPlain (understood no_schema create_text)
unfolding understood everything
create_plain = (refl, refl)

abbrev pub deleting : Query
deleting = record matched { project = col 1 0 ∷ [] }

pub delete_is : (s : Schema) → IsBookSchema s → Means s delete_text (Delete 0 (record { lets = []; body = deleting }))
unfolding understood everything
delete_is = of_book (λ s. Means s delete_text (Delete 0 (record { lets = []; body = deleting }))) (refl, (refl, refl)) (refl, (refl, refl))

abbrev pub renaming : Query
renaming = record matched { project = col 1 0 ∷ col 1 0 ∷ col 0 1 ∷ col 1 2 ∷ [] }

pub rename_is : (s : Schema) → IsBookSchema s → Means s rename_text (Update 0 (record { lets = []; body = renaming }))
unfolding understood everything
rename_is = of_book (λ s. Means s rename_text (Update 0 (record { lets = []; body = renaming }))) (refl, (refl, refl)) (refl, (refl, refl))
