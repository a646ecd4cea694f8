-- The laws that the proofs cite.
pub mod EndLaws
pub mod TakenLaws
