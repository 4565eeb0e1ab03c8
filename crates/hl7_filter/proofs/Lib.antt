mod Rows
pub mod Standing
pub mod Unescaped
pub mod Alike
pub mod Views
