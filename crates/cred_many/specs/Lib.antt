-- The definitions that the contracts of a service cite.
pub mod Adds
pub mod Answered
pub mod LineOperations
pub mod Costs
pub mod Inbox
pub mod Locks
pub mod Names
pub mod Reading
pub mod Scribe
pub mod Served
pub mod Service
pub mod Telling
pub mod Transcript
pub mod Tries
pub mod Turns
pub use Rattle.cred_book.specs.Accounts
pub use Rattle.cred_phc.specs.Values
