pub mod Delivering
pub mod Judging
pub mod inner
