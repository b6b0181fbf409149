-- Definitions that contracts cite: lines and passwords as they are read, what the commands do,
-- what they write, and their exit statuses.
pub mod PasswordOperations
pub mod AccountOperations
pub mod Import
pub mod Lines
pub mod Listing
pub mod Seen
pub mod Settings
pub mod Marked
pub mod Statuses
pub use Rattle.cred_cli.specs.Costs
pub use Rattle.cred_cli.specs.Outcome
pub use Rattle.cred_cli.specs.Texts
pub use Rattle.cred_cli.specs.Watched
pub use Rattle.cred_book.specs.Accounts
pub use Rattle.cred_book.specs.Names
pub use Rattle.cred_book.specs.Works
pub use Rattle.cred_phc.specs.Ranges
pub use Rattle.cred_phc.specs.Values
