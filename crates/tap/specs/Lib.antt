pub mod Tapping
