mod Crossing
pub mod Parts
pub mod Reported
pub mod Traced
pub mod Unused
