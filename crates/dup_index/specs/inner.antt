-- What proofs alone use: no claim rests on these pages.
pub mod Kept
pub mod Key
pub mod Known
