pub mod RecordLemmas
pub mod ReadLemmas
pub mod FailureLemmas
