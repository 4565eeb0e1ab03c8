pub mod Event
pub mod Framing
pub mod inner
