pub mod Behind
pub mod Booked
pub mod Faults
