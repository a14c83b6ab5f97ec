pub mod Places
pub mod Words
pub mod Ends
pub mod Pieces
pub mod Alike
pub mod Passing
pub mod Matching
pub mod Rows
pub mod Library
mod Cases
