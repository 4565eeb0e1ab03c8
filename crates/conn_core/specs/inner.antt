-- What proofs alone use: no claim rests on these pages.
pub mod Booking
pub mod Outcomes
pub mod Replies
