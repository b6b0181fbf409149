-- Lemmas on the entries of a tree, on times and waits, and on histories.
pub mod Answered
pub mod Cleared
pub mod Counted
pub mod Earlier
pub mod Judged
pub mod Kept
pub mod Limited
pub mod Listed
pub mod Seldom
pub mod Stretched
pub mod Times
pub mod Traced
pub mod Waited
