-- What proofs alone use: no claim rests on these pages.
pub mod Coding
pub mod Delivering
pub mod Judging
pub mod Outgoing
pub mod Rows
