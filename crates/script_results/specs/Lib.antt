-- The definitions that the contracts cite.
pub mod Output
pub mod Hex
pub mod Decimal
pub mod Complaints
pub mod Results
