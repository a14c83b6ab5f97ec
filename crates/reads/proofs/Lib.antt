pub mod Laws
pub mod Notes
pub mod Addresses
