-- What proofs alone use: no claim rests on these pages.
pub mod Code
pub mod Delims
pub mod Escape
pub mod Path
pub mod Pieces
pub mod Spans
pub mod Tree
