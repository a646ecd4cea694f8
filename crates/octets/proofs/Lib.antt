-- The laws that the proofs cite.
-- Assumes nothing.
pub mod ParseLaws
pub mod BigEndianLaws
pub mod OutputLaws
pub mod CompareLaws
pub mod Utf8Laws
pub mod Utf8Library
pub mod Utf8Cases
