-- The counts of all names.
use Rattle.std.specs.Prelude.{ℕ, List, if◌then◌else◌, unwrap_or}
use Rattle.std.specs.Coded.{Coded, coded_list, coded_ℕ}
use Rattle.std.specs.FinMap as map
use Rattle.cred_book.specs.Names.{name_cmp}
use Rattle.cred_tries.specs.contracts.count.Count as count_contract
use Rattle.cred_tries.specs.Counts.{is_nothing, nothing}
use Rattle.cred_tries.specs.declared.count.Count.{Count}

-- the counts of the names at which something is counted
abbrev pub CountMap : Type 0
CountMap = map.FinMap name_cmp Count

abbrev pub count_map_code : Coded CountMap
count_map_code = map.code (coded_list coded_ℕ) count_contract.the_row.coded

-- the count of a name
abbrev pub count_of : CountMap → List ℕ → Count
count_of counts name = unwrap_or (map.get counts name) nothing

-- this is counted at the name from now on
abbrev pub with_count : CountMap → List ℕ → Count → CountMap
with_count counts name count =
    if is_nothing count then map.remove counts name else map.insert counts name count
