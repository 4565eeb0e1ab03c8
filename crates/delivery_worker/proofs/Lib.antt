pub mod Afresh
pub mod ByRule
pub mod Calls
pub mod Delivered
pub mod InLog
pub mod Listed
pub mod Reading
pub mod Sent
pub mod Streams
pub mod Unused
pub mod Works
mod Rows
