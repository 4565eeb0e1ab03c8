-- What proofs alone use: no claim rests on these pages.
pub mod Calls
pub mod Code
pub mod Event
pub mod Framed
pub mod Framing
pub mod Stage
