-- Definitions that contracts cite: the table, the book that its rows stand for, what is kept, what
-- is opened, and why a call fails.
pub mod Schema
pub mod Cells
pub mod Table
pub mod Changes
pub mod Keeps
pub mod Kept
pub mod Rows
pub mod Transactions
pub mod Opening
pub mod Drafts
pub mod Failures
pub mod Copies
pub use Rattle.cred_book.specs.Accounts
pub use Rattle.cred_book.specs.Calls
pub use Rattle.cred_book.specs.Commits
pub use Rattle.cred_book.specs.Names
pub use Rattle.cred_book.specs.Works
pub use Rattle.cred_phc.specs.Values
