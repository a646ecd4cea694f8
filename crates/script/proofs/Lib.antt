-- The laws that the proofs cite, and what the definitions mean.
pub mod TableLaws
pub mod FieldLaws
pub mod ReadLaws
pub mod DecimalLaws
pub mod HexLaws
pub mod MetadataLaws
pub mod Meaning
