-- What proofs alone use: no claim rests on these pages.
pub mod Counters
pub mod Keys
pub mod Order
pub mod Owing
pub mod Rows
pub mod Resuming
