-- Definitions that private contracts and proofs use, and no public contract.
pub mod Words
pub mod Stages
pub mod Written
