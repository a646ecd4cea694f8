-- The definitions that the contracts cite.
pub mod Hex
pub mod Decimal
pub mod Fields
pub mod Verbs
pub mod Lines
pub mod Metadata
