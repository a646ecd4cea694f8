-- The laws that the proofs cite, and what the definitions mean.
pub mod RunLaws
pub mod Meaning
