-- The words of single clauses: no claim rests on these pages.
pub mod Faults
pub mod Flights
