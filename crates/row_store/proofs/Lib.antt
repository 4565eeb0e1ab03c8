pub mod Bits
pub mod Changes
pub mod Places
pub mod QueueLaws
mod WorkedRows
