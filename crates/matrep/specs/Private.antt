-- Definitions that private contracts and proofs use, and no public contract.
pub mod Operands
pub mod Searched
pub mod Listing
