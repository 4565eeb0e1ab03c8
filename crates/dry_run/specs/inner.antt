-- What proofs alone use: no claim rests on these pages.
pub mod Lines
pub mod Segments
pub mod Trying
pub mod Ways
