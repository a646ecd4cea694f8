-- The definitions that the contracts cite.
pub mod Bodies
pub mod MetadataBody
pub mod Fields
pub mod Sizes
pub mod Sent
pub mod Starred
