-- Definitions that private contracts and proofs use, and no public contract.
pub mod Plain
pub mod Held
pub mod Deciding
pub mod Packed
pub mod Kept
