pub mod Seats
pub mod Shown
pub mod Steps
pub mod Kinds
pub mod Keys
pub mod Cards
pub mod Private
