-- The line of an event: its word, then its fields. Each field is one from which its value is read.
use Rattle.std.specs.Prelude.{◌≡◌, ℕ, List, [], ◌∷◌, Ok, codes}
use Rattle.cred_book.specs.declared.request.Request.{Request}
use Rattle.cred_book.specs.declared.request.Request.TheVariants.{Enrol, Verify, Change, Upgrade, Remove}
use Rattle.cred_cli.specs.{Events.key_field, Events.name_field, Events.password_field, Events.record_field, Events.setting_field, declared.event.Event.Event}
use Rattle.cred_cli.specs.declared.event.Event.TheVariants.{Account, Load, Show, Begin, Commit, Bad}

-- after the number of a `begin`: the operation's word and its fields
abbrev pub IsRequestOf : Request → List (List ℕ) → Type 0
IsRequestOf (Verify name pw) words =
    (x p : List ℕ) × (words ≡ codes "verify" ∷ x ∷ p ∷ [])
    × (name_field x ≡ Ok name) × (password_field p ≡ Ok pw)
IsRequestOf (Remove name pw) words =
    (x p : List ℕ) × (words ≡ codes "remove" ∷ x ∷ p ∷ [])
    × (name_field x ≡ Ok name) × (password_field p ≡ Ok pw)
IsRequestOf (Enrol name pw setting) words =
    (x p s : List ℕ) × (words ≡ codes "enrol" ∷ x ∷ p ∷ s ∷ [])
    × (name_field x ≡ Ok name) × (password_field p ≡ Ok pw) × (setting_field s ≡ Ok setting)
IsRequestOf (Upgrade name pw setting) words =
    (x p s : List ℕ) × (words ≡ codes "upgrade" ∷ x ∷ p ∷ s ∷ [])
    × (name_field x ≡ Ok name) × (password_field p ≡ Ok pw) × (setting_field s ≡ Ok setting)
IsRequestOf (Change name pw new setting) words =
    (x p q s : List ℕ) × (words ≡ codes "change" ∷ x ∷ p ∷ q ∷ s ∷ [])
    × (name_field x ≡ Ok name) × (password_field p ≡ Ok pw)
    × (password_field q ≡ Ok new) × (setting_field s ≡ Ok setting)

-- a line that asks for nothing may have any words
abbrev pub IsLineOf : Event → List (List ℕ) → Type 0
IsLineOf (Account name) words =
    (x : List ℕ) × (words ≡ codes "account" ∷ x ∷ []) × (name_field x ≡ Ok name)
IsLineOf (Load name stored) words =
    (x r : List ℕ) × (words ≡ codes "load" ∷ x ∷ r ∷ [])
    × (name_field x ≡ Ok name) × (record_field r ≡ Ok stored)
IsLineOf (Show name) words =
    (x : List ℕ) × (words ≡ codes "show" ∷ x ∷ []) × (name_field x ≡ Ok name)
IsLineOf (Begin key request) words =
    (k : List ℕ) × (fields : List (List ℕ)) × (words ≡ codes "begin" ∷ k ∷ fields)
    × (key_field k ≡ Ok key) × IsRequestOf request fields
IsLineOf (Commit key) words =
    (k : List ℕ) × (words ≡ codes "commit" ∷ k ∷ []) × (key_field k ≡ Ok key)
IsLineOf (Bad why) words = Unit {0}
