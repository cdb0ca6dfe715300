-- The kinds of a cube's voxels and links are those of the scan where they lie. Assumes nothing.
use mathlib.Core.Path.{◌≡◌, refl, ap, ap₂, ◌∙◌}
use mathlib.Core.Bool.{Bool, true, false, not}
use Prim.Native.Nat.{ℕ}
use lib.Dec.{T, eqb, eqb→eq}
use Rattle.std.specs.List.{list_all, list_any}
use Rattle.grid.specs.Links.{upper_of}
use Rattle.grid.specs.declared.voxel.Voxel.{Voxel}
use Rattle.cube.specs.Lists.{In}
use Rattle.cube.specs.Cube.{solid, voxels, lower, upper, link_numbers, crossing}
use Rattle.cube.specs.Laws.{solid_end as cube_solid_end, hollow_end as cube_hollow_end}
use Rattle.cube.proofs.Listed.{every_at, found}
use Rattle.surface.specs.Places.{Solids, voxel_at, kinds_at, link_at}
use Rattle.surface.specs.Joined.{solid_end, hollow_end, crosses}
use Rattle.surface.proofs.Membership.{all_at}
use Rattle.surface.proofs.Numbered.{upper_at}

-- The ends of a cube's links are voxels of the cube.
all_lower : T (list_all (λ l. list_any (eqb (lower l)) voxels) link_numbers)
all_lower = tt

all_upper : T (list_all (λ l. list_any (eqb (upper l)) voxels) link_numbers)
all_upper = tt

module _ (solids : Solids) (u : Voxel) where
  pub kind_at : (i : ℕ) → In i voxels → solid (kinds_at solids u) i ≡ solids (voxel_at u i)
  kind_at =
      all_at (λ i. solid (kinds_at solids u) i ≡ solids (voxel_at u i)) voxels
      (refl, (refl, (refl, (refl, (refl, (refl, (refl, (refl, tt))))))))

  module _ (l : ℕ) (i : In l link_numbers) where
    kind_lower : solid (kinds_at solids u) (lower l) ≡ solids (voxel_at u (lower l))
    kind_lower =
        kind_at (lower l) (found eqb eqb→eq (lower l) voxels (every_at (λ l. list_any (eqb (lower l)) voxels) link_numbers all_lower l i))

    kind_upper : solid (kinds_at solids u) (upper l) ≡ solids (upper_of (link_at u l))
    kind_upper =
        kind_at (upper l) (found eqb eqb→eq (upper l) voxels (every_at (λ l. list_any (eqb (upper l)) voxels) link_numbers all_upper l i))
        ∙ ap solids (upper_at u l i)

    -- A link of the cube carries a corner just where the link of the scan does.
    pub crossing_at : crossing (kinds_at solids u) l ≡ crosses solids (link_at u l)
    crossing_at = ap₂ (λ a b. elim a [ true ↦ not b | false ↦ b ]) kind_lower kind_upper

    solid_of : (b : Bool) → voxel_at u (elim b [ true ↦ lower l | false ↦ upper l ]) ≡ elim b [ true ↦ voxel_at u (lower l) | false ↦ upper_of (link_at u l) ]
    solid_of true = refl
    solid_of false = upper_at u l i

    hollow_of : (b : Bool) → voxel_at u (elim b [ true ↦ upper l | false ↦ lower l ]) ≡ elim b [ true ↦ upper_of (link_at u l) | false ↦ voxel_at u (lower l) ]
    hollow_of true = upper_at u l i
    hollow_of false = refl

    -- The solid and the hollow end of the cube's link lie where those of the scan's link do.
    pub solid_end_at : voxel_at u (cube_solid_end (kinds_at solids u) l) ≡ solid_end solids (link_at u l)
    solid_end_at =
        solid_of (solid (kinds_at solids u) (lower l))
        ∙ ap (λ b. elim b as (λ b. Voxel) [ true ↦ voxel_at u (lower l) | false ↦ upper_of (link_at u l) ]) kind_lower

    pub hollow_end_at : voxel_at u (cube_hollow_end (kinds_at solids u) l) ≡ hollow_end solids (link_at u l)
    hollow_end_at =
        hollow_of (solid (kinds_at solids u) (lower l))
        ∙ ap (λ b. elim b as (λ b. Voxel) [ true ↦ upper_of (link_at u l) | false ↦ voxel_at u (lower l) ]) kind_lower
