pub mod Laws
pub mod Wrong
