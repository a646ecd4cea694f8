-- The definitions that the contracts cite.
-- Assumes nothing.
pub mod Cursor
pub mod Waiting
