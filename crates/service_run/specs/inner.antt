-- What proofs alone use: no claim rests on these pages.
pub mod Progress
