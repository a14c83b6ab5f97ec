pub mod Phasing
