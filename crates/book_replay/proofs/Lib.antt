pub mod Steps
pub mod Arrivals
pub mod Runs
pub mod Reasons
