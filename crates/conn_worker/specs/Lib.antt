pub mod Faults
pub mod Serving
pub mod Arriving
pub mod inner
