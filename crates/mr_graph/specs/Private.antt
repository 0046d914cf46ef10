-- Definitions that private contracts and proofs use, and no public contract.
pub mod Graph
pub mod Labels
pub mod Grown
pub mod Components
pub mod Order
