pub mod Answers
pub mod Table
pub mod Steps
pub mod Prefixes
pub mod Merged
pub mod Laws
pub mod Private
