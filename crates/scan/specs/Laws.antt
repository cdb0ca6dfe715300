-- The laws of the meanings, which the scans' ghost members cite.
pub mod Places
pub mod Painting
pub mod Clipping
pub mod Lawful
