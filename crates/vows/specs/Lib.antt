pub mod Through
pub mod Vows
