pub mod Kept
pub mod Replaced
