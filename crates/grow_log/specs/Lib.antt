-- The definitions that the contracts of a log cite.
pub mod Beginnings
pub mod Links
