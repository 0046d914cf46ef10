-- Definitions that private contracts and proofs use, and no public contract.
pub mod Block
pub mod Numbers
pub mod Reading
pub mod Pairs
pub mod Points
