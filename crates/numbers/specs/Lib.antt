-- The definitions that contracts cite, and the table of cases. Assumes nothing.
pub mod Numbers
pub mod Starred
