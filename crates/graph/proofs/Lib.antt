pub mod Trails
pub mod Found
pub mod Led
pub mod Closed
pub mod Looped
pub mod Made
