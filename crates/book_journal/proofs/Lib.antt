pub mod Rows
pub mod Steps
pub mod Recovered
pub mod Crashing
