-- The laws that the proofs cite.
-- Assumes nothing.
pub mod BoolLaws
pub mod TextLaws
pub mod PlaceLaws
pub mod SearchLaws
pub mod TableLaws
