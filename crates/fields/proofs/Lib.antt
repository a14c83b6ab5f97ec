pub mod Led
pub mod Behind
pub mod Last
pub mod Texts
pub mod Worth
pub mod Compared
pub mod Bdrys
pub mod Encodings
mod Cases
mod HeaderCases
pub mod Octets
