-- The laws that the proofs cite, and what the definitions mean.
pub mod OutputLaws
pub mod HexLaws
pub mod DecimalLaws
pub mod Meaning
