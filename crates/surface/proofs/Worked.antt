-- The worked cases, computed. Assumes nothing.
use Rattle.std.proofs.Common.{◌≡◌, [], ◌∷◌, map, refl, ap, ◌∙◌}
use Rattle.grid.specs.declared.sides.Sides.{Sides}
use Rattle.grid.specs.declared.voxel.Voxel.{Voxel}
use Rattle.cube.specs.Cube.{Kinds, kinds}
use Rattle.cube.specs.Cutting.{triangle}
use Rattle.cube.specs.Triangles.{triangles, cut_all, with_tube}
use Rattle.cube.specs.declared.pair.Pair.{Pair}
use Rattle.cube.specs.declared.pair.Pair.TheVariants.{S18H6, S26H6, S6H18, S6H26}
use Rattle.surface.specs.Places.{Solids, kinds_at}
use Rattle.surface.specs.Laid.{numbered, laid_at, edges}
use Rattle.surface.specs.Samples.{Samples}

one : (p : Pair) → triangles p (kinds 1) ≡ triangle 0 4 8 ∷ []
unfolding cut_all with_tube
one S18H6 = refl
one S26H6 = refl
one S6H18 = refl
one S6H26 = refl

two : triangles S18H6 (kinds 3) ≡ triangle 4 8 5 ∷ triangle 5 8 9 ∷ []
unfolding cut_all with_tube
two = refl

-- The triangles of a cube of known kinds, in the scan's link numbers.
laid_as : (s : Sides) (p : Pair) (solid : Solids) (low : Voxel) (k : Kinds) → kinds_at solid low ≡ k → laid_at s p solid low ≡ map (numbered s low) (triangles p k)
laid_as s p solid low k e = ap (λ k. map (numbered s low) (triangles p k)) e

pub worked : Samples
worked =
    record {
      one = λ s p solid low e.
          let laid = laid_as s p solid low (kinds 1) e ∙ ap (map (numbered s low)) (one p) in
          record { triangle = laid; around = ap edges laid };
      two = λ s solid low e. laid_as s S18H6 solid low (kinds 3) e ∙ ap (map (numbered s low)) two;
    }
