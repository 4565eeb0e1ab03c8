-- What proofs alone use: no claim rests on these pages.
pub mod Check
pub mod Outcome
pub mod Rules
pub mod Same
pub mod Step
pub mod View
