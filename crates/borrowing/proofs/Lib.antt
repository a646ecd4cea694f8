-- What the proofs of the borrowing calls share.
-- Assumes nothing.
pub mod RequestLaws
pub mod MediaLaws
