-- Trees that list a schema of a book list no other.
use Rattle.std.proofs.Common.{◌≡◌, ◌⊎◌, inl, inr, ℕ, zero, suc, ◌+◌, pos, List, [], ◌∷◌, filter, length, slice_get, Some, refl, sym, ap, subst, ◌∙◌, arith}
use Rattle.std.proofs.lemmas.{List.nil_from_length, Slice.Zip.AllZip-long}
use Rattle.std.specs.List.{AllZip}
use Rattle.sqlite.specs.declared.types.Value.{Value}
use Rattle.sqlite.specs.declared.types.Value.TheVariants.{Null, Int, Text}
use Rattle.sqlite.specs.{Order.Row, Order.column, Tree.Trees, Table.Table, Schema.Schema, Compile.table_defined_by}
use Rattle.sqlite_rules.specs.Lists.{Has}
use Rattle.sqlite_trees.specs.Objects.{catalog_tree}
use Rattle.sqlite_schema.specs.declared.schema.Index.{Index}
use Rattle.sqlite_catalog.specs.Listing.{IsSound, IsTableRow, IsIndexRow, IsViewRow, IsDefined, automatic, is_index_row}
use Rattle.cred_file.specs.Schema.{AreBookTables, IsBookSchema, account, key_index, statistics}
use Rattle.cred_file.proofs.TableLemmas.{all_once}

same_tree : (v : Value) (a b : ℕ) → v ≡ Int (pos (a + 1)) → v ≡ Int (pos (b + 1)) → a ≡ b
same_tree v a b p q = let e = sym p ∙ q in let n : a + 1 ≡ b + 1 = cc in omega (arith, n)

one_table : (row : Row) (t u : Table) → IsTableRow row t → IsTableRow row u → t ≡ u
one_table row t u h k =
    let tree = same_tree _ t.tree u.tree h.described.id k.described.id in
    let texts = sym h.sql_is ∙ k.sql_is in
    let sql : h.sql ≡ k.sql = cc in
    let both = sym h.defined.1 ∙ ap table_defined_by sql ∙ k.defined.1 in
    let made : h.defined.0 ≡ k.defined.0 = cc in
    h.defined.2 ∙ (λ i. record (made i) { tree = tree i }) ∙ sym k.defined.2

place_of_key : (at : ℕ) (key : List ℕ) → slice_get account.uniques at ≡ Some key → (at ≡ 0) × (key ≡ 1 ∷ [])
place_of_key zero key h = (refl, cc)
place_of_key (suc at) key h = absurd cc

one_defined : (v : Value) (i j : Index) → i.tree ≡ j.tree → IsDefined account i v → IsDefined account j v → i ≡ j
one_defined Null i j tree h k =
    let p = place_of_key h.0 h.1 h.2 in
    let q = place_of_key k.0 k.1 k.2 in
    let at = p.0 ∙ sym q.0 in
    let key = p.1 ∙ sym q.1 in
    h.3 ∙ (λ x. automatic account (at x) (key x) (tree x)) ∙ sym k.3
one_defined (Text sql) i j tree h k =
    let both = sym h.1 ∙ k.1 in
    let made : h.0 ≡ k.0 = cc in
    h.2 ∙ (λ x. record (made x) { tree = tree x; table = account.tree }) ∙ sym k.2
one_defined _ i j tree h k = absurd h

-- the table of an index is the book's: the statistics have none
which : (tables : List Table) → AreBookTables tables → (t : Table) → Has tables t → (t ≡ account) ⊎ (t ≡ statistics)
which tables (inl is) t has = elim (subst (λ ts. Has ts t) is has) [ inl it ↦ inl it | inr none ↦ absurd none ]
which tables (inr is) t has = elim (subst (λ ts. Has ts t) is has) [
  | inl it ↦ inl it
  | inr more ↦ elim more [ inl it ↦ inr it | inr none ↦ absurd none ]
]

no_key : (v : Value) → IsDefined statistics key_index v → ⊥
no_key Null d = let none = d.2 in absurd cc
no_key (Text sql) d =
    let table : key_index.table ≡ statistics.tree = ap (λ (i : Index). i.table) d.2 in
    absurd (omega (arith, table))
no_key _ d = d

key_of_account : (row : Row) (t : Table) → (t ≡ account) ⊎ (t ≡ statistics) → IsDefined t key_index (column row 4) → t ≡ account
key_of_account row t (inl is) d = is
key_of_account row t (inr is) d = absurd (no_key (column row 4) (subst (λ t. IsDefined t key_index (column row 4)) is d))

same_owner : (v : Value) (t u : Table) → v ≡ Text t.name → v ≡ Text u.name → u ≡ account → (t ≡ account) ⊎ (t ≡ statistics) → t ≡ account
same_owner v t u p q is (inl it) = it
same_owner v t u p q is (inr it) =
    let names = sym p ∙ q in
    let same : t.name ≡ u.name = cc in
    let other : statistics.name ≡ account.name = ap (λ (t : Table). t.name) (sym it) ∙ same ∙ ap (λ (t : Table). t.name) is in
    absurd cc

one_key : (tables : List Table) → AreBookTables tables → (row : Row) (i : Index) → IsIndexRow tables row i → IsIndexRow tables row key_index → i ≡ key_index
one_key tables are row i h k =
    let mine = key_of_account row k.table (which tables are k.table k.listed) k.defined in
    let its = same_owner _ h.table k.table h.described.owner_is k.described.owner_is mine (which tables are h.table h.listed) in
    one_defined (column row 4) i key_index (same_tree _ i.tree key_index.tree h.described.id k.described.id)
    (subst (λ t. IsDefined t i (column row 4)) its h.defined) (subst (λ t. IsDefined t key_index (column row 4)) mine k.defined)

the_key : (tables : List Table) → AreBookTables tables → (rows : List Row) (is : List Index) → AllZip (IsIndexRow tables) rows is → AllZip (IsIndexRow tables) rows (key_index ∷ []) → is ≡ key_index ∷ []
the_key tables are [] is p q = absurd q
the_key tables are (r ∷ []) [] p q = absurd p
the_key tables are (r ∷ []) (i ∷ []) p q = ap (λ (i : Index). i ∷ []) (one_key tables are r i p.0 q.0)
the_key tables are (r ∷ []) (i ∷ j ∷ is) p q = absurd p.1
the_key tables are (r ∷ s ∷ rs) is p q = absurd q.1

pub still_book : (db : Trees) (mine s : Schema) → IsBookSchema mine → IsSound mine db → IsSound s db → IsBookSchema s
still_book db mine s is h k =
    let first = h.lists.listed in
    let other = k.lists.listed in
    let tables : s.tables ≡ mine.tables = all_once IsTableRow one_table _ s.tables mine.tables other.tables first.tables in
    let rows = subst (λ ts. AllZip (IsIndexRow ts) (filter is_index_row (db catalog_tree)) s.indexes) tables other.indexes in
    record {
      tables = subst AreBookTables (sym tables) is.tables;
      indexes = the_key mine.tables is.tables _ s.indexes rows (subst (AllZip (IsIndexRow mine.tables) (filter is_index_row (db catalog_tree))) is.indexes first.indexes);
      views = nil_from_length s.views (AllZip-long IsViewRow _ s.views other.views ∙ sym (AllZip-long IsViewRow _ mine.views first.views) ∙ ap length is.views);
    }
