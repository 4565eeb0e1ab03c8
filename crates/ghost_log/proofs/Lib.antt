pub mod Seats
pub mod Counting
pub mod Keeping
pub mod Sent
pub mod Numbers
