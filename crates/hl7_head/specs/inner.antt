-- What proofs alone use: no claim rests on these pages.
pub mod Ack
pub mod Laws
pub mod Places
pub mod Segment
