-- Lemmas about lines that came, seen changes of records, commits, changes together, names in a row,
-- what answers tell, what a lock bars, what a writer takes, and a history that goes on.
pub mod Adding
pub mod Beside
pub mod Clear
pub mod Concerns
pub mod Locked
pub mod Commits
pub mod Inboxes
pub mod Limiting
pub mod Lines
pub mod Listed
pub mod Seen
pub mod Serving
pub mod Groups
pub mod Shares
pub mod Telling
pub mod Transcripts
pub mod Turns
pub mod Unended
pub mod Uses
