mod Rows
pub mod Counting
pub mod Cutting
pub mod Components
pub mod HeaderSegment
pub mod Assembling
pub mod Fronts
pub mod Bytes
pub mod AckBytes
pub mod ReadBack
pub mod Runs
pub mod IdRun
