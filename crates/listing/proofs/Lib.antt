pub mod Pasted
pub mod Spelled
pub mod Lines
pub mod Wrong
