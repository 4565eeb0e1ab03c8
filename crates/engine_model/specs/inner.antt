-- What proofs alone use: no claim rests on these pages.
pub mod Amid
pub mod Coding
pub mod Converse
pub mod Handling
pub mod Promise
pub mod Run
pub mod View
