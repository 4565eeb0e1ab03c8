pub mod Numbering
pub mod Texts
mod Answering
