-- What proofs alone use: no claim rests on these pages.
pub mod ByView
pub mod Condition
pub mod Same
pub mod View
