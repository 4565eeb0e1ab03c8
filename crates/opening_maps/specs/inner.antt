-- The words of single clauses: no claim rests on these pages.
pub mod Openings
pub mod GivenBack
pub mod Rebased
pub mod SetAside
