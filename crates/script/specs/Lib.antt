pub mod Grammar
pub mod Taken
pub mod Text
pub mod Printed
pub mod Any
pub mod Laws
