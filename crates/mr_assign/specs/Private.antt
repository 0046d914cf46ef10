-- Definitions that private contracts and proofs use, and no public contract.
pub mod Packing
pub mod Again
pub mod Words
