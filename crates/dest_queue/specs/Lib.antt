pub mod States
pub mod Slots
pub mod Queues
pub mod inner
