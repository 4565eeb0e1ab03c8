-- The words of single clauses: no claim rests on these pages.
pub mod Crash
pub mod Held
pub mod Order
pub mod Rows
