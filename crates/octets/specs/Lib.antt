-- The definitions that the contracts cite.
-- Assumes nothing.
pub mod Parse
pub mod BigEndian
pub mod Output
pub mod Compare
pub mod Span
pub mod Utf8
pub mod Utf8Cases
