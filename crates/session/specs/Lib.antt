-- The definitions that the contracts cite.
pub mod Numbers
pub mod Record
pub mod Calls
pub mod Outcomes
pub mod Plan
pub mod Message
pub mod Step
pub mod Contract
pub mod Comes
pub mod Runs
