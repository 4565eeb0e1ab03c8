-- The words of single clauses: no claim rests on these pages.
pub mod Starting
pub mod Faults
pub mod Numbers
pub mod Holds
