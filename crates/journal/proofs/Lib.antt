-- The theorems and the laws that they stand on.
-- Assumes nothing.
pub mod EachLaws
pub mod RuleLaws
pub mod Adequacy
pub mod Good
pub mod CallerGood
pub mod MessageGood
pub mod PlanGood
pub mod StepLaws
pub mod CountLaws
pub mod Theorem
pub mod Runs
pub mod CallSteps
