pub mod Laws
pub mod Life
