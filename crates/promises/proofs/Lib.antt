pub mod Determined
pub mod Promises
pub mod Wrong
