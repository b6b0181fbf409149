-- Definitions that contracts cite: names, books, whole operations, and what each call does.
pub mod Accounts
pub mod ByTags
pub mod Calls
pub mod Changes
pub mod Commits
pub mod Errors
pub mod Makers
pub mod Names
pub mod Passwords
pub mod Places
pub mod Updates
pub mod Works
pub use Rattle.cred_phc.specs.Ranges
pub use Rattle.cred_phc.specs.Tags
pub use Rattle.cred_phc.specs.Values
