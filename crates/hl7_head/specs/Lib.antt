pub mod Ack
pub mod Calendar
pub mod Header
pub mod Laws
pub mod Msa
pub mod Stamp
pub mod inner
