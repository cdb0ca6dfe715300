pub mod Numbers
pub mod Extents
pub mod Voxels
pub mod Links
pub mod Cubes
pub mod Borders
pub mod Texts
