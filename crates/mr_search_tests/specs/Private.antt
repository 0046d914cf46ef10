-- What the tests keep of the answers of cubes.
pub mod Answered
