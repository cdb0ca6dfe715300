pub mod Laws
pub mod Solids
pub mod Successors
