-- Definitions that private contracts and proofs use, and no public contract.
pub mod Answers
pub mod Table
pub mod Order
pub mod Marks
pub mod Prefixes
pub mod Merged
