pub mod Boards
pub mod Stores
