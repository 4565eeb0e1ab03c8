pub mod Sums
pub mod Statistics
pub mod inner
