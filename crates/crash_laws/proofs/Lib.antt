pub mod Passed
pub mod Answered
pub mod Made
pub mod Left
pub mod Runs
