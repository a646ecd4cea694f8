-- The definitions that the contracts cite.
pub mod Numbers
pub mod Incoming
pub mod Places
pub mod Steps
pub mod Notice
pub mod Metadata
pub mod Starred
