-- The numbers and words of the errors.
use Rattle.std.specs.Prelude.{ℕ, List, codes}
use Rattle.cred_phc.specs.declared.error.PhcError.{PhcError}
use Rattle.cred_phc.specs.declared.error.PhcError.TheVariants.{Shape, Scheme, Version, Params, Range, Salt, Tag, Memory, TooLong}

abbrev pub error_number : PhcError → ℕ
error_number Shape = 1
error_number Scheme = 2
error_number Version = 3
error_number Params = 4
error_number Range = 5
error_number Salt = 6
error_number Tag = 7
error_number Memory = 8
error_number TooLong = 9

abbrev pub error_word : PhcError → List ℕ
error_word Shape = codes "shape"
error_word Scheme = codes "scheme"
error_word Version = codes "version"
error_word Params = codes "params"
error_word Range = codes "range"
error_word Salt = codes "salt"
error_word Tag = codes "tag"
error_word Memory = codes "memory"
error_word TooLong = codes "toolong"
