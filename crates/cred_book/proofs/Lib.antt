-- Lemmas: sorted entries and a book kept as such, equality of records, commits and their changes,
-- the meaning of a yes, and the account of an answer.
pub mod Changes
pub mod Commitments
pub mod Entries
pub mod Equality
pub mod Kept
pub mod Passwords
pub mod Registered
pub mod Rows
pub mod Telling
pub mod Updating
