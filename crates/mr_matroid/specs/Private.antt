-- Definitions that private contracts and proofs use, and no public contract.
pub mod Exchange
pub mod Table
pub mod Counts
pub mod Listing
pub mod Search
pub mod Shared
