-- Lemmas: letters by arithmetic, texts by their places, and what decodes.
pub mod LetterLaws
pub mod PlaceLaws
pub mod DecodedLaws
