-- The lemmas of scrypt, and the vectors that pin the definitions.
pub mod Pointwise
pub mod Lanes
pub mod Steps
pub mod Cuts
pub mod TableRows
pub mod Derivations
mod MixingVectors
mod HmacVectors
mod ScryptVectors
