pub mod Replay
pub mod inner
