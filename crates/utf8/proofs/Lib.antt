pub mod Sequences
pub mod Characters
pub mod Below
pub mod Walks
pub mod Encoded
mod Cases
pub mod Spaces
