pub mod Judgements
pub mod Keys
pub mod Printing
pub mod Routing
pub mod Sending
pub mod Verdicts
