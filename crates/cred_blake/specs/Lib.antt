-- The definitions that the contracts of BLAKE2b and H' cite.
pub mod Errors
pub mod Words
pub mod Blake2b
pub mod Hasher
pub mod HashPrime
