mod Rows
pub mod Controls
pub mod Lacking
pub mod Outcomes
pub mod Protecting
pub mod Refusing
pub mod Stopping
pub mod Tables
