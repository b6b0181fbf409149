-- The lemma that the proof of the small keeper cites.
pub mod Rooms
