pub mod Arms
pub mod Sounds
