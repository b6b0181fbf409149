-- Definitions that contracts cite: the time, what is counted at one name and at all, what happens
-- at a name, and what is asked of that.
pub mod Answers
pub mod Clocks
pub mod CountMaps
pub mod Counts
pub mod Histories
pub mod Limits
pub mod Steps
pub mod Stretches
