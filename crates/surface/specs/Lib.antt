pub mod Places
pub mod Laid
pub mod Joined
pub mod Placing
pub mod Laws
pub mod Fronts
pub mod Whole
pub mod Samples
