-- The lemmas that the proofs of the script engine cite.
pub mod Events
pub mod EventLines
pub mod Feeds
pub mod Lines
pub mod Names
pub mod Openings
pub mod Programs
pub mod Prompts
pub mod Readings
pub mod Runs
pub mod Simulation
pub mod StepLemmas
pub mod Basis
pub mod Writes
