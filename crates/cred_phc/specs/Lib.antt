-- Definitions that contracts cite: the values, their ranges and texts, how texts are read and
-- their faults judged, and tags.
pub mod Padded
pub mod Ranges
pub mod Values
pub mod Errors
pub mod Base64
pub mod Number
pub mod Pieces
pub mod Names
pub mod Text
pub mod Fields
pub mod Reading
pub mod Faults
pub mod Vectors
pub mod Tags
pub mod Functions
pub mod Scratches
pub use Rattle.cred_argon.specs.Argon
pub use Rattle.cred_argon.specs.Numbers
pub use Rattle.cred_argon.specs.Parameters
pub use Rattle.cred_scrypt.specs.Scrypt
