pub mod Crossing
pub mod Seats
