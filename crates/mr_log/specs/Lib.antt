pub mod Lines
pub mod Log
pub mod Reading
pub mod Words
pub mod Private
