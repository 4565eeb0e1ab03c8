pub mod Answers
pub mod Stream
pub mod Delivering
pub mod Turns
pub mod Taking
pub mod Sent
pub mod inner
