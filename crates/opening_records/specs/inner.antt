-- The words of single clauses: no claim rests on these pages.
pub mod Decoding
pub mod Lengths
pub mod Faults
pub mod Reading
pub mod Encoding
pub mod Openings
