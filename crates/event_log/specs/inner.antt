-- What proofs alone use: no claim rests on these pages.
pub mod Answers
pub mod Coding
pub mod Counting
pub mod Deployment
pub mod Event
pub mod Folding
pub mod History
pub mod Kept
pub mod Legal
pub mod PruningRows
pub mod Room
pub mod Rows
