pub mod Elements
pub mod Subsets
pub mod Places
pub mod Matroid
pub mod Laws
pub mod Private
