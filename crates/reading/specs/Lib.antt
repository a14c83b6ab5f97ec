pub mod Text
pub mod Bytes
pub mod Reading
pub mod Blocks
