pub mod Askings
pub mod Drawings
pub mod Refusals
