pub mod Nodes
pub mod Search
pub mod Laws
pub mod Private
