-- What proofs alone use: no claim rests on these pages.
pub mod AtKey
pub mod BuiltIn
pub mod Coding
pub mod Fault
pub mod Same
