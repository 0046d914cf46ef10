pub mod Dual
pub mod Minor
pub mod Laws
pub mod Private
