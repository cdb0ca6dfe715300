-- A cube in its scan: where its voxels and its links lie, and of which kinds its voxels are. Assumes nothing.
use Rattle.std.specs.Prelude.{Bool, List, map, ℕ, zero, suc, ◌-◌, ◌/◌, ◌%◌}
use Rattle.grid.specs.Links.{link_number_of}
use Rattle.grid.specs.declared.axis.Axis.{Axis}
use Rattle.grid.specs.declared.axis.Axis.TheVariants.{X, Y, Z}
use Rattle.grid.specs.declared.link.Link.{Link}
use Rattle.grid.specs.declared.sides.Sides.{Sides}
use Rattle.grid.specs.declared.voxel.Voxel.{Voxel}
use Rattle.cube.specs.Cube.{Kinds, dx, dy, dz, lower, axis, link_numbers}

-- The kinds of all voxels: true where solid, false where hollow.
abbrev pub Solids : Type 0
Solids = Voxel → Bool

-- A coordinate, or the next one where d is 1.
abbrev pub onward : ℕ → ℕ → ℕ
onward zero x = x
onward (suc d) x = suc x

-- Voxel i of the cube with a low voxel.
abbrev pub voxel_at : Voxel → ℕ → Voxel
voxel_at low i = record { x = onward (dx i) low.x; y = onward (dy i) low.y; z = onward (dz i) low.z }

-- The kinds of the cube's eight voxels.
abbrev pub kinds_at : Solids → Voxel → Kinds
kinds_at solid low =
    record {
      v0 = solid (voxel_at low 0);
      v1 = solid (voxel_at low 1);
      v2 = solid (voxel_at low 2);
      v3 = solid (voxel_at low 3);
      v4 = solid (voxel_at low 4);
      v5 = solid (voxel_at low 5);
      v6 = solid (voxel_at low 6);
      v7 = solid (voxel_at low 7);
    }

-- The axis with a number.
abbrev pub axis_named : ℕ → Axis
axis_named zero = X
axis_named (suc zero) = Y
axis_named (suc (suc n)) = Z

-- Link l of the cube, and the number that it has in the scan.
abbrev pub link_at : Voxel → ℕ → Link
link_at low l = record { lower = voxel_at low (lower l); axis = axis_named (axis l) }

abbrev pub number_at : Sides → Voxel → ℕ → ℕ
number_at s low l = link_number_of s (link_at low l)

-- The numbers of the cube's twelve links.
abbrev pub links_of : Sides → Voxel → List ℕ
links_of s low = map (number_at s low) link_numbers

-- The low voxel of cube n, where cubes are numbered with x fastest.
abbrev pub low_of : Sides → ℕ → Voxel
low_of s n = record { x = n % (s.x - 1); y = n / (s.x - 1) % (s.y - 1); z = n / (s.x - 1) / (s.y - 1) }
