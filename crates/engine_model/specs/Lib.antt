pub mod Turn
pub mod Run
pub mod Steps
pub mod Promise
pub mod Converse
pub mod inner
