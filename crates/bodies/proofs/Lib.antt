-- The laws that the proofs cite, and what holds of the bodies that are sent: they are read as what they were written from.
-- Assumes nothing.
pub mod BodyLaws
pub mod FieldLaws
pub mod CommandRound
pub mod SentLaws
pub mod ControlRound
pub mod MetadataRound
pub mod MetadataRead
pub mod Starred
