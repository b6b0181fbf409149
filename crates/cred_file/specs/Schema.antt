-- The one table of a kept book, and the tables that may stand beside it.
use Rattle.std.specs.Prelude.{◌≡◌, ◌⊎◌, ℕ, List, [], ◌∷◌, None, codes, true, false}
use Rattle.sqlite.specs.{Collation.TheVariants.Binary, declared.types.Value.TheVariants.Null, Table.Table, Schema.Schema}
use Rattle.sqlite.specs.Kind.TheVariants.{Any, Text}
use Rattle.sqlite_schema.specs.{declared.schema.Column.Column, declared.schema.Index.Index}

abbrev pub create_text : List ℕ
create_text = codes "CREATE TABLE account (name TEXT NOT NULL PRIMARY KEY, record TEXT) STRICT"

-- those that change it, by a name and a record's text, a name, and two names
abbrev pub insert_text : List ℕ
insert_text = codes "INSERT INTO account (name, record) VALUES (?1, ?2)"

abbrev pub update_text : List ℕ
update_text = codes "UPDATE account SET record = ?2 WHERE name = ?1"

abbrev pub delete_text : List ℕ
delete_text = codes "DELETE FROM account WHERE name = ?1"

abbrev pub rename_text : List ℕ
rename_text = codes "UPDATE account SET name = ?2 WHERE name = ?1"

abbrev pub name_column : Column
name_column = record {
  name = codes "name";
  kind = Text;
  is_strict = true;
  not_null = true;
  default = Null;
  collation = Binary;
}

abbrev pub record_column : Column
record_column = record {
  name = codes "record";
  kind = Text;
  is_strict = true;
  not_null = false;
  default = Null;
  collation = Binary;
}

-- what the text above defines
abbrev pub account : Table
account = record {
  name = codes "account";
  tree = 0;
  columns = name_column ∷ record_column ∷ [];
  key = None;
  primary = 1 ∷ [];
  uniques = (1 ∷ []) ∷ [];
  orders = record { digits = 0 } ∷ [];
  checks = [];
  references = [];
  computed = [];
  stamps = record { places = []; terms = []; formats = [] };
  is_counted = false;
}

-- the index that comes with the key
abbrev pub key_index : Index
key_index = record {
  name = codes "sqlite_autoindex_account_1";
  tree = 1;
  table = 0;
  columns = 1 ∷ [];
  order = record { digits = 0 };
  is_unique = true;
}

-- ANALYZE notes here the number of rows of a name. No command of a book reads or writes this table.
abbrev pub statistics_text : List ℕ
statistics_text = codes "CREATE TABLE sqlite_stat1(tbl,idx,stat)"

abbrev pub statistics_column : List ℕ → Column
statistics_column name = record {
  name = name;
  kind = Any;
  is_strict = false;
  not_null = false;
  default = Null;
  collation = Binary;
}

abbrev pub statistics : Table
statistics = record {
  name = codes "sqlite_stat1";
  tree = 2;
  columns = statistics_column (codes "tbl") ∷ statistics_column (codes "idx")
      ∷ statistics_column (codes "stat") ∷ [];
  key = None;
  primary = [];
  uniques = [];
  orders = [];
  checks = [];
  references = [];
  computed = [];
  stamps = record { places = []; terms = []; formats = [] };
  is_counted = false;
}

-- the table of a book, and those beside it
abbrev pub book_schema : List Table → Schema
book_schema beside = record { tables = account ∷ beside; indexes = key_index ∷ []; views = [] }

-- the table of a book, alone or with the statistics
abbrev pub AreBookTables : List Table → Type 0
AreBookTables tables = (tables ≡ account ∷ []) ⊎ (tables ≡ account ∷ statistics ∷ [])

pub record IsBookSchema (s : Schema) : Type 0 where
  pub tables : AreBookTables s.tables
  pub indexes : s.indexes ≡ key_index ∷ []
  pub views : s.views ≡ []

abbrev pub no_schema : Schema
no_schema = record { tables = []; indexes = []; views = [] }

-- ---- parts of these, as an open compares them

pub record IsPlainText (c : Column) : Type 0 where
  pub kind : c.kind ≡ Text
  pub is_strict : c.is_strict ≡ true
  pub default : c.default ≡ Null
  pub collation : c.collation ≡ Binary

pub record HasAccountKey (t : Table) : Type 0 where
  pub key : t.key ≡ None
  pub primary : t.primary ≡ 1 ∷ []
  pub uniques : t.uniques ≡ (1 ∷ []) ∷ []
  pub orders : t.orders ≡ record { digits = 0 } ∷ []

pub record IsUntyped (c : Column) : Type 0 where
  pub kind : c.kind ≡ Any
  pub is_strict : c.is_strict ≡ false
  pub not_null : c.not_null ≡ false
  pub default : c.default ≡ Null
  pub collation : c.collation ≡ Binary

pub record HasNoKey (t : Table) : Type 0 where
  pub key : t.key ≡ None
  pub primary : t.primary ≡ []
  pub uniques : t.uniques ≡ []
  pub orders : t.orders ≡ []

pub record HasNoRules (t : Table) : Type 0 where
  pub checks : t.checks ≡ []
  pub references : t.references ≡ []
  pub computed : t.computed ≡ []
  pub stamps : t.stamps ≡ record { places = []; terms = []; formats = [] }
  pub is_counted : t.is_counted ≡ false
