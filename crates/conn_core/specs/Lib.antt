pub mod Messages
pub mod Replies
pub mod Booking
pub mod inner
