-- What proofs alone use: no claim rests on these pages.
pub mod Levels
pub mod Attention
