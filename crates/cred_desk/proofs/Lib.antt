-- The lemmas that the proofs of the desk cite.
pub mod Changes
pub mod Lists
