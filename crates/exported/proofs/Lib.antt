pub mod Askings
pub mod Handing
pub mod Sofar
