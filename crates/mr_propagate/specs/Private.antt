-- Definitions that private contracts and proofs use, and no public contract.
pub mod Pairs
pub mod Found
pub mod Trie
pub mod Kept
