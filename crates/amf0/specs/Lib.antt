-- The definitions that the contracts cite.
pub mod Value
pub mod Decode
pub mod Encode
pub mod Lookup
pub mod Places
pub mod Names
pub mod Starred
