pub mod Calls
pub mod Never
pub mod Takes
pub mod Through
pub mod Vows
