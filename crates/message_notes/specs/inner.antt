-- What proofs alone use: no claim rests on these pages.
pub mod Deliveries
pub mod Notes
