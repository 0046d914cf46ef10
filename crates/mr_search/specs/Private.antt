-- Definitions that private contracts and proofs use, and no public contract.
pub mod Steps
pub mod Citing
