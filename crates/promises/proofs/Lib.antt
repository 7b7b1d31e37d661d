pub mod Admission
pub mod Idle
pub mod Lending
pub mod Nearest
pub mod Orders
pub mod Quarter
pub mod Reserved
pub mod Turn
