-- The journal, the latest-line rule and what is claimed of them.
pub mod Lines
pub mod Rule
pub mod Meaning
pub mod Trace
pub mod Demand
pub mod Beside
pub mod Runs
