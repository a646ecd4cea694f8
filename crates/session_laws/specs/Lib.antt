-- What holds of every call, as statements. The proofs are in proofs/.
-- Assumes nothing.
pub mod Order
pub mod Conditions
pub mod Space
pub mod Refusals
pub mod Kept
pub mod Lines
pub mod Sound
pub mod Acknowledged
pub mod Numbered
