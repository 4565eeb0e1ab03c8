pub mod Check
pub mod Step
pub mod inner
