-- What proofs alone use: no claim rests on these pages.
pub mod Address
pub mod Line
pub mod Position
pub mod Room
