pub mod Asking
mod AskingRows
pub mod Commands
pub mod Refusing
