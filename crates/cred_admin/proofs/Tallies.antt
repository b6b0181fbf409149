-- The result of an import's lines, a line at a time.
use Rattle.std.proofs.Common.{Bool, true, false, cond, ◌≡◌, ℕ, ◌+◌, ◌≤◌, ◌<◌, ◌⊎◌, inl, inr, refl, List, [], ◌∷◌, Result, Err, sym, ap, ◌∙◌, arith}
use Rattle.std.specs.Cmp.Lexicographic.{nat_list_cmp_total}
use Rattle.cred_book.specs.Accounts.{Accounts, register_capacity}
use Rattle.cred_admin.specs.{Import.Comes, Import.Tally, Import.said_of, Import.tally_from, Import.with_account, Import.with_bad, Import.with_entry, Import.with_line, declared.entry.LineAccount.LineAccount, declared.entry.LineFault.LineFault, declared.entry.Said.Said, declared.import.Existing.Existing}
use Rattle.cred_admin.specs.{declared.import.ImportFault.ImportFault, declared.import.Rules.Rules}
use Rattle.cred_admin.proofs.Imported.{by_entry, by_line}
use Rattle.std.specs.FinMap as map
use Rattle.cred_admin.specs.declared.import.ImportFault.TheVariants as fault

pub tally_more : (rules : Rules) (book : Accounts) (t next : Tally) (n : ℕ) (lines rest : List (List ℕ)) (line : List ℕ) (all : Tally) → tally_from rules book t n lines ≡ all → lines ≡ line ∷ rest
    → next ≡ with_line rules book t n (said_of rules.locked line) → tally_from rules book next (n + 1) rest ≡ all
unfolding tally_from
tally_more rules book t next n lines rest line all goes cut is = ap (λ u. tally_from rules book u (n + 1) rest) is ∙ sym (ap (tally_from rules book t n) cut) ∙ goes

pub tally_end : (rules : Rules) (book : Accounts) (t : Tally) (n : ℕ) (lines : List (List ℕ)) (all : Tally) → tally_from rules book t n lines ≡ all → lines ≡ [] → t ≡ all
unfolding tally_from
tally_end rules book t n lines all goes none = sym (ap (tally_from rules book t n) none) ∙ goes

-- ---- how much a line adds

pub record Grows (t next : Tally) : Type 0 where
  pub more : map.len t.accounts ≤ map.len next.accounts
  pub kept : next.kept ≤ t.kept + 1

grows_bad : (t : Tally) (n : ℕ) (why : LineFault) → Grows t (with_bad t n why)
grows_bad t n why = record { more = omega arith; kept = omega arith }

at_least : (b : Bool) (n m : ℕ) → m ≡ cond b n (n + 1) → n ≤ m
at_least true n m is = omega (arith, is)
at_least false n m is = omega (arith, is)

grows_account : (t : Tally) (e : LineAccount) → Grows t (with_account t e)
grows_account t e =
    record { more = at_least (map.contains_key t.accounts e.name) _ _ (map.len-insert nat_list_cmp_total t.accounts e.name e.stored); kept = omega arith }

pub grows : (rules : Rules) (book : Accounts) (t : Tally) (n : ℕ) (r : Result Said LineFault) → Grows t (with_line rules book t n r)
grows rules book t n r =
    by_line (Grows t) rules book t n r (record { more = omega arith; kept = omega arith }) (grows_bad t n)
    (λ e says. by_entry (Grows t) rules.existing book t n e (grows_bad t n) (record { more = omega arith; kept = omega arith })
    (λ how there new. record { more = omega arith; kept = omega arith }) (λ new here. grows_account t e))

-- no line takes an account away
pub tally_keeps : (rules : Rules) (book : Accounts) (t : Tally) (n : ℕ) (lines : List (List ℕ)) → map.len t.accounts ≤ map.len (tally_from rules book t n lines).accounts
unfolding tally_from
tally_keeps rules book t n [] = omega arith
tally_keeps rules book t n (line ∷ lines) = omega (arith, tally_keeps rules book (with_line rules book t n (said_of rules.locked line)) (n + 1) lines, (grows rules book t n (said_of rules.locked line)).more)

-- ---- too many accounts

-- the account of a line is one too many
pub one_too_many : (how : Existing) (book : Accounts) (t : Tally) (n room : ℕ) (e : LineAccount) → map.contains_key book e.name ≡ false → map.contains_key t.accounts e.name ≡ false → room ≤ map.len t.accounts
    → room < map.len (with_entry how book t n e).accounts
one_too_many how book t n room e new_there new_here full =
    rw (new_there, new_here) (omega (arith, full, rw new_here at (map.len-insert nat_list_cmp_total t.accounts e.name e.stored)))

-- and so all of them are too many
pub fault_of_line : (rules : Rules) (book : Accounts) (t : Tally) (n : ℕ) (lines rest : List (List ℕ)) (line : List ℕ) (all : Tally) → tally_from rules book t n lines ≡ all → lines ≡ line ∷ rest
    → (e : ImportFault) → Comes (with_line rules book t n (said_of rules.locked line)) t (Err e) → (e ≡ fault.Memory) ⊎ ((e ≡ fault.Full) × (register_capacity < map.len all.accounts))
fault_of_line rules book t n lines rest line all goes cut fault.Memory many = inl refl
fault_of_line rules book t n lines rest line all goes cut fault.Full many =
    let whole = tally_more rules book t (with_line rules book t n (said_of rules.locked line)) n lines rest line all goes cut refl in
    inr (refl, omega (arith, many, tally_keeps rules book (with_line rules book t n (said_of rules.locked line)) (n + 1) rest, ap (λ (u : Tally). map.len u.accounts) whole))
fault_of_line rules book t n lines rest line all goes cut fault.Read none = absurd none
fault_of_line rules book t n lines rest line all goes cut (fault.Lines bad) none = absurd none
