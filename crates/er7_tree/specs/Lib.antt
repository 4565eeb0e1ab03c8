pub mod Delims
pub mod Edit
pub mod Escape
pub mod Path
pub mod Pieces
pub mod Tree
pub mod inner
