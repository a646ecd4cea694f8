-- The laws that the proofs cite.
mod Sent
pub mod Spaces
