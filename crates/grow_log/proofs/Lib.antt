-- The lemmas that the proofs of a log cite.
pub mod Adding
pub mod Links
pub mod Prefixes
