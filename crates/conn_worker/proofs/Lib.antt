pub mod Written
pub mod Growing
pub mod Standing
pub mod Pieces
