-- What proofs alone use: no claim rests on these pages.
pub mod Doors
pub mod Order
pub mod Works
