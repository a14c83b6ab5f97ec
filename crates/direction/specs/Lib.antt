pub mod Direction
