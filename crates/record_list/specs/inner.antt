-- What proofs alone use: no claim rests on these pages.
pub mod Chain
pub mod Head
pub mod Held
pub mod Linked
pub mod LinkedRows
pub mod Packing
pub mod Seating
pub mod Stands
pub mod Visit
