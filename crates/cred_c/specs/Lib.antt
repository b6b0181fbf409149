-- Definitions that the contracts of the exports cite.
pub mod Answers
pub mod Inputs
pub mod Lanes
pub mod Parts
pub mod Readings
pub mod Steps
