-- What the tests keep of passes and stores.
pub mod Boards
pub mod Stores
