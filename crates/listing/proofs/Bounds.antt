-- How many cubes a scan has, and how many triangles they have. Assumes nothing.
use Rattle.std.proofs.Common.{◌-◌, ◌*◌, ◌<◌, ◌≤◌, arith}
use Rattle.std.proofs.lemmas.Nat.{mul-le}
use Rattle.grid.specs.Cubes.{cube_count}
use Rattle.grid.specs.declared.sides.Sides.{Sides}
use Rattle.drawing.specs.declared.drawing.Drawing.{Drawing}

-- A scan has at most 255 cubes along each axis.
pub cubes_small : (s : Sides) → cube_count s ≤ 16581375
cubes_small s =
    mul-le (s.x - 1) ((s.y - 1) * (s.z - 1)) 255 65025 (omega (arith, s.fits))
    (mul-le (s.y - 1) (s.z - 1) 255 255 (omega (arith, s.fits)) (omega (arith, s.fits)))

-- So eight digits write the cubes of a drawing and the triangles of these.
pub counts_small : (d : Drawing) → (d.cubes < 100000000) × (d.triangles < 100000000)
counts_small d =
    let cubes = cubes_small d.sides in
    (omega (arith, d.within), omega (arith, d.within, d.few))
