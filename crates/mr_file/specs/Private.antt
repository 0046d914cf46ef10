-- Definitions that private contracts and proofs use, and no public contract.
pub mod File
pub mod Numbers
pub mod Reading
