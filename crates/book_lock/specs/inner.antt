-- What proofs alone use: no claim rests on these pages.
pub mod Arriving
pub mod Auditing
pub mod Closing
pub mod Coding
pub mod Counts
pub mod Durable
pub mod Log
pub mod Planning
pub mod Reading
pub mod Rises
pub mod Shares
pub mod Showing
pub mod Sound
pub mod Tidies
pub mod Unread
pub mod Windows
