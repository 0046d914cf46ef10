pub mod Excluding
pub mod Cites
pub mod Words
