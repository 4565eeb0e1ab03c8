pub mod Seats
pub mod inner
