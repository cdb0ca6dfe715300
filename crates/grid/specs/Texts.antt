-- What is printed of voxels, sides and numbers that no axis has. Assumes nothing.
use Rattle.std.specs.Prelude.{ℕ, List, ◌++◌, codes}
use Rattle.std.specs.Fmt.{decimal}
use Rattle.grid.specs.declared.axis.NoAxis.{NoAxis}
use Rattle.grid.specs.declared.sides.Sides.{Sides}
use Rattle.grid.specs.declared.voxel.Voxel.{Voxel}

-- A voxel is printed as its three coordinates, as in (1,2,3).
abbrev pub voxel_text : Voxel → List ℕ
voxel_text v = codes "(" ++ (decimal v.x ++ (codes "," ++ (decimal v.y ++ (codes "," ++ (decimal v.z ++ codes ")")))))

-- Sides are printed as their three lengths, as in 3 x 4 x 5.
abbrev pub sides_text : Sides → List ℕ
sides_text s = decimal s.x ++ (codes " x " ++ (decimal s.y ++ (codes " x " ++ decimal s.z)))

-- A number that no axis has is printed after what it lacks.
abbrev pub no_axis_text : NoAxis → List ℕ
no_axis_text e = codes "no axis has the number " ++ decimal e.0
