-- The answers of the exports: one table of numbers for all of them, and what each export leaves.
use Rattle.std.specs.Prelude.{◌≡◌, ℕ, ◌^◌, ◌<◌, ◌≤◌, ◌⊎◌, List, length, take}
use Rattle.cred_argon.specs.declared.error.ArgonError.{ArgonError}
use Rattle.cred_argon.specs.declared.error.ArgonError.TheVariants.{Lanes, Cost, Passes, TagLen, InputLen, Memory}
use Rattle.cred_scrypt.specs.declared.error.ScryptError.{ScryptError}
use Rattle.cred_scrypt.specs.declared.error.ScryptError.TheVariants.{Cost as ScryptCost, BlockSize, Blocks, Len, Memory as ScryptMemory}
use Rattle.cred_phc.specs.{Tags.tag, Values.RecordValue}

-- 1 to 9 are the faults of texts, and 8 is out of memory for every export. 10 is another password,
-- 11 too little room, 12 no kind and 13 no version. 23 is no operation, 24 a copy that isn't a
-- record, 25 a password of over 256 bytes, and 27 blocks that aren't those of the numbers. Only the
-- C in front answers 26.
abbrev pub argon_number : ArgonError → ℕ
argon_number Lanes = 14
argon_number Cost = 15
argon_number Passes = 16
argon_number TagLen = 17
argon_number InputLen = 18
argon_number Memory = 8

abbrev pub scrypt_number : ScryptError → ℕ
scrypt_number ScryptCost = 19
scrypt_number BlockSize = 20
scrypt_number Blocks = 21
scrypt_number Len = 22
scrypt_number ScryptMemory = 8

-- the record is one of the password
abbrev pub IsRight : RecordValue → List ℕ → Type 0
IsRight v pw = v.tag ≡ tag v.setting (length v.tag) pw

-- the answer about a record and a password
pub record IsVerdict (v : RecordValue) (pw : List ℕ) (answer : ℕ) : Type 0 where
  pub long : 2 ^ 32 ≤ length pw → answer ≡ 18
  pub other : length pw < 2 ^ 32 → (answer ≡ 0) ⊎ (answer ≡ 8) ⊎ (answer ≡ 10)
  pub right : answer ≡ 0 → IsRight v pw
  pub wrong : answer ≡ 10 → IsRight v pw → ⊥

-- the answer of a call that may write a text, a buffer before and after the call, and the length of
-- the text at the front
pub record Output : Type 0 where
  pub answer : ℕ
  pub old : List ℕ
  pub new : List ℕ
  pub len : ℕ

abbrev pub output : ℕ → List ℕ → List ℕ → ℕ → Output
output answer old new len = record { answer = answer; old = old; new = new; len = len }

-- the call should write the text over the front of the buffer
pub record IsWritten (text : List ℕ) (o : Output) : Type 0 where
  pub one_of : (o.answer ≡ 0) ⊎ (o.answer ≡ 8) ⊎ (o.answer ≡ 11)
  pub written : o.answer ≡ 0 → (o.len ≡ length text) × (take o.len o.new ≡ text)
  pub room : o.answer ≡ 11 → length o.old < length text
