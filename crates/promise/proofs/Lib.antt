pub mod Kept
pub mod Answered
pub mod Positive
pub mod Connections
pub mod Known
pub mod Found
