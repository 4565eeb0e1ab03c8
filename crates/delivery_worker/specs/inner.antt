-- What proofs alone use: no claim rests on these pages.
pub mod Answers
pub mod Calls
pub mod Delivering
pub mod Lately
pub mod Links
pub mod Stream
pub mod Taking
pub mod Works
