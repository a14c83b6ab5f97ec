pub mod Pieces
pub mod Stands
pub mod Windows
pub mod Traces
