-- What proofs alone use: no claim rests on these pages.
pub mod Arriving
pub mod Counting
pub mod Handling
pub mod Session
pub mod Stream
