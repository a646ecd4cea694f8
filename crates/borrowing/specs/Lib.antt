-- What the borrowing calls do.
pub mod Borrowed
