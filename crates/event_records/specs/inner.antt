-- The words of single clauses: no claim rests on these pages.
pub mod Fields
pub mod Encoding
pub mod Decoding
