pub mod Ending
pub mod Findings
pub mod Lines
pub mod Request
pub mod Words
pub mod inner
