pub mod Sound
pub mod Rejections
pub mod Walk
pub mod Verdicts
pub mod Either
