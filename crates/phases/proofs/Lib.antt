pub mod Turning
pub mod Reactions
pub mod Heading
pub mod Parting
pub mod Dispatch
pub mod Bare
