pub mod Lays
pub mod CubeLays
pub mod Reaching
pub mod Lookups
pub mod Edges
pub mod Steps
pub mod Beside
pub mod LinkNumbers
