-- The answers of reading parameters and numbers, and the tags of settings by their parameters.
pub mod RawFaults
pub mod PartFaults
pub mod RecordLanes
