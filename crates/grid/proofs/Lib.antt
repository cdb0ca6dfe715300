pub mod Numbering
pub mod Same
pub mod Numbered
pub mod Rims
