-- Definitions that private contracts and proofs use, and no public contract.
pub mod Laying
pub mod Cards
