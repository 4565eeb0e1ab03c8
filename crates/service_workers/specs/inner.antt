-- What proofs alone use: no claim rests on these pages.
pub mod Answering
pub mod Pauses
pub mod Prunings
pub mod Stages
pub mod Held
pub mod Kinds
