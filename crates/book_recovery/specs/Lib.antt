pub mod Seen
pub mod Adopted
pub mod Interrupting
pub mod inner
