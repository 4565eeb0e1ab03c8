pub mod Escaping
pub mod Fields
