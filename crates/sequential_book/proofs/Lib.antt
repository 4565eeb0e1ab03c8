pub mod Adding
pub mod Deploying
pub mod Replies
pub mod Following
pub mod Messages
pub mod Walks
pub mod Blank
