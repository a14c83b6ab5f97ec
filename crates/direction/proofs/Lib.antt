pub mod Tags
pub mod Sides
pub mod Cases
pub mod Payloads
