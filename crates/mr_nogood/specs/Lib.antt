pub mod Row
pub mod Follows
pub mod Packing
pub mod Unpacking
pub mod Laws
pub mod Private
