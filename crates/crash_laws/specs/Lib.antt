-- Definitions that contracts cite: a store that stops, and what a run over it comes to.
pub mod Stops
pub mod StopLaws
pub mod Crashes
