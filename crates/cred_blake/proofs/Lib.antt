-- The lemmas of BLAKE2b and H', and the vectors that pin the definitions.
pub mod Blocks
pub mod Feeding
pub mod Halves
pub mod Lengths
pub mod Schedule
pub mod Vectors
pub mod WordBytes
