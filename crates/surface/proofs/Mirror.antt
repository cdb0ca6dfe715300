-- Solid and hollow exchanged, with the pair swapped, turn every triangle over. Assumes nothing.
use mathlib.Core.Path.{◌≡◌, refl, sym, ap, ap₂, ◌∙◌}
use mathlib.Core.List.{List, [], ◌∷◌, ◌++◌, map, map-append}
use Prim.Native.Nat.{ℕ, zero, suc}
use Rattle.grid.specs.declared.sides.Sides.{Sides}
use Rattle.grid.specs.declared.voxel.Voxel.{Voxel}
use Rattle.cube.specs.Pairs.{swap}
use Rattle.cube.specs.Triangles.{triangles, turn_over as turn_cube}
use Rattle.cube.specs.declared.pair.Pair.{Pair}
use Rattle.cube.specs.declared.triangle.CubeTriangle.{CubeTriangle}
use Rattle.cube.proofs.Lawful as cube
use Rattle.surface.specs.Places.{Solids, kinds_at, low_of}
use Rattle.surface.specs.Laid.{numbered, laid_at, laid, turn_over}
use Rattle.surface.specs.Joined.{hollow_of}
use Rattle.surface.specs.Laws.{Mirrored}

module _ (s : Sides) (p : Pair) (solid : Solids) where
  -- It does not matter whether a triangle is turned over before or after its links are numbered.
  turned_numbers : (low : Voxel) (ts : List CubeTriangle) → map (numbered s low) (map turn_cube ts) ≡ map turn_over (map (numbered s low) ts)
  turned_numbers low [] = refl
  turned_numbers low (t ∷ ts) = ap (λ us. turn_over (numbered s low t) ∷ us) (turned_numbers low ts)

  -- One cube lays the triangles of the exchanged one turned over.
  pub mirrored_at : (low : Voxel) → laid_at s (swap p) (hollow_of solid) low ≡ map turn_over (laid_at s p solid low)
  mirrored_at low =
      ap (map (numbered s low)) (cube.mirrored p (kinds_at solid low)) ∙ turned_numbers low (triangles p (kinds_at solid low))

  pub mirror : (n : ℕ) → laid s (swap p) (hollow_of solid) n ≡ map turn_over (laid s p solid n)
  mirror zero = refl
  mirror (suc n) =
      ap₂ (λ ts us. ts ++ us) (mirror n) (mirrored_at (low_of s n))
      ∙ sym (map-append turn_over (laid s p solid n) (laid_at s p solid (low_of s n)))

pub mirrored : Mirrored
mirrored = mirror
