-- The definitions that the contracts cite.
pub mod Texts
pub mod Places
pub mod Table
