-- The definitions that the contracts of the desk cite.
pub mod Changes
pub mod Commits
pub mod Histories
pub mod Naming
pub mod Refusals
pub mod Standing
pub use Rattle.cred_book.specs.Accounts
pub use Rattle.cred_book.specs.Calls
pub use Rattle.cred_book.specs.Commits as BookCommits
pub use Rattle.cred_book.specs.Works
