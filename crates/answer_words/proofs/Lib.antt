pub mod Finding
pub mod Paths
