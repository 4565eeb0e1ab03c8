pub mod Condition
pub mod View
pub mod inner
