-- Boxes of places and the numbers of their places. Assumes nothing.
use Rattle.std.specs.Prelude.{◌≡◌, ℕ}
use Rattle.grid.specs.Numbers.{Inside, place_count, voxel_number}
use Rattle.grid.specs.declared.extent.Extent.{Extent}
use Rattle.grid.specs.declared.voxel.Voxel.{Voxel}

-- A box has a place when each coordinate is below its side.
abbrev pub Within : Extent → Voxel → Type 0
Within e v = Inside e.x e.y e.z v.x v.y v.z

-- How many places a box has.
abbrev pub places_of : Extent → ℕ
places_of e = place_count e.x e.y e.z

-- A place of the box with its number, x fastest.
abbrev pub PlaceNumbered : Extent → Voxel → ℕ → Type 0
PlaceNumbered e v n = Within e v × (n ≡ voxel_number e.x e.y v.x v.y v.z)
