-- Definitions that private contracts and proofs use, and no public contract.
pub mod Building
pub mod Filling
pub mod Parts
pub mod Kept
