pub mod Dependence
pub mod Images
pub mod Forms
pub mod Partition
pub mod Extending
pub mod Stepping
pub mod Trying
pub mod Matrices
mod Single
