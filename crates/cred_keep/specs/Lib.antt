-- Definitions that contracts cite: what a command makes of a kept book, and how it ends.
pub mod BookCommands
pub mod Copy
pub mod Imports
pub use Rattle.cred_admin.specs.AccountOperations
pub use Rattle.cred_admin.specs.Import
pub use Rattle.cred_admin.specs.Marked
pub use Rattle.cred_admin.specs.Seen
pub use Rattle.cred_cli.specs.Outcome
pub use Rattle.cred_cli.specs.Watched
pub use Rattle.cred_file.specs.Copies
pub use Rattle.cred_file.specs.Keeps
pub use Rattle.cred_file.specs.Kept
pub use Rattle.cred_file.specs.Opening
