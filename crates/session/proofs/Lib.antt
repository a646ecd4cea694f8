-- The laws that the proofs cite.
pub mod StepLaws
pub mod TakeLaws
pub mod RecordLaws
pub mod CallLaws
pub mod Runs
pub mod MessageLaws
pub mod ReplyLaws
pub mod PlainLaws
