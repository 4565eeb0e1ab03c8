-- What proofs alone use: no claim rests on these pages.
pub mod Answers
pub mod Escape
pub mod Hosts
pub mod Targets
pub mod Requests
