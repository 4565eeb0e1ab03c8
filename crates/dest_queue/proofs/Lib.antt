pub mod Keepable
pub mod QueueLemmas
pub mod SlotLaws
pub mod SlotLemmas
mod WorkedSlots
