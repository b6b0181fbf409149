-- Lemmas: bytes, pieces, numbers and base64; fields and schemes; then whole records and faults.
pub mod BytesLaws
pub mod PieceLaws
pub mod NumberLaws
pub mod Base64Laws
pub mod FieldLaws
pub mod StepLaws
pub mod SchemeLaws
pub mod TextLaws
pub mod RecordLaws
pub mod FaultLaws
pub mod WritingLaws
pub mod HashingLaws
pub mod RangeLaws
