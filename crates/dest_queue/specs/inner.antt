-- What proofs alone use: no claim rests on these pages.
pub mod Kept
pub mod Listed
pub mod Queues
pub mod Slots
pub mod SlotsBy
pub mod States
