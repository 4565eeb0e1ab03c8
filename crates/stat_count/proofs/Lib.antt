pub mod AddsUp
pub mod SumLaws
