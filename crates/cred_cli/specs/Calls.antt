-- The state at a call on a reader.
use Rattle.std.specs.Prelude.{ℕ, List, Option, refl}
use Rattle.std.specs.Coded.{Coded, code_by, coded×, coded_list, coded_option, coded_ℕ}
use Rattle.std.specs.FinMap as map
use Rattle.cred_phc.specs.contracts.Record as stored
use Rattle.cred_book.specs.Accounts.{Accounts}

-- the bytes that the reader had left and had given, the name of the writer beside it, the bytes
-- that the writer held and had taken, and the keeper's book
pub record Call : Type 0 where
  pub left : Option (List ℕ)
  pub given : List ℕ
  pub beside : ℕ
  pub written : Option (List ℕ)
  pub taken : List ℕ
  pub accounts : Accounts

-- how the logic stores bytes that may be unknown, a book, and a call
abbrev pub bytes_code : Coded (Option (List ℕ))
bytes_code = coded_option (coded_list coded_ℕ)

abbrev pub accounts_code : Coded Accounts
accounts_code = map.code (coded_list coded_ℕ) (coded_option stored.the_row.coded)

-- the named bytes, and the bytes that passed
abbrev pub seen_code : Coded (Option (List ℕ) × List ℕ)
seen_code = coded× bytes_code (coded_list coded_ℕ)

abbrev pub call_code : Coded Call
call_code = code_by (((Option (List ℕ) × List ℕ) × ℕ) × ((Option (List ℕ) × List ℕ) × Accounts))
    (coded× (coded× seen_code coded_ℕ) (coded× seen_code accounts_code))
    (λ call. (((call.left, call.given), call.beside), ((call.written, call.taken), call.accounts)))
    (λ p. record {
      left = p.0.0.0;
      given = p.0.0.1;
      beside = p.0.1;
      written = p.1.0.0;
      taken = p.1.0.1;
      accounts = p.1.1;
    })
    (λ _. refl)
