pub mod Masks
pub mod Closed
pub mod HeldMask
pub mod Answering
