-- Definitions that private contracts and proofs use, and no public contract.
pub mod Elimination
pub mod Stored
pub mod Reduction
pub mod Small
