-- What proofs alone use: no claim rests on these pages.
pub mod Counting
pub mod Letter
pub mod Parts
pub mod Pruning
pub mod Questions
pub mod Refusing
pub mod Sending
