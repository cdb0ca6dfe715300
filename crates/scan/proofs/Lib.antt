pub mod Rims
