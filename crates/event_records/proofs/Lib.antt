pub mod Fields
pub mod Loop
pub mod Back
pub mod Only
