pub mod Precision
pub mod Levels
pub mod Fractions
pub mod Coordinates
pub mod Points
pub mod Placing
pub mod Texts
pub mod Samples
