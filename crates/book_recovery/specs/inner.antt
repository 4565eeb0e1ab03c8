-- The words of single clauses: no claim rests on these pages.
pub mod Header
pub mod Preface
pub mod File
pub mod Redone
