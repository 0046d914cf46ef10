pub mod Images
pub mod Orbits
pub mod Laws
pub mod Private
