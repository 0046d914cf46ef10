-- Definitions that private contracts and proofs use, and no public contract.
pub mod Answers
pub mod Lists
pub mod Desks
