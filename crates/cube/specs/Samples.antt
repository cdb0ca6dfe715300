-- Worked cases of the rules of the cube. Assumes nothing.
use Rattle.std.specs.Prelude.{◌≡◌, [], ◌∷◌}
use Rattle.cube.specs.Lists.{In}
use Rattle.cube.specs.Cube.{Face, faces, Walked, kinds}
use Rattle.cube.specs.Cutting.{triangle}
use Rattle.cube.specs.Triangles.{triangles}
use Rattle.cube.specs.declared.pair.Pair.{Pair}
use Rattle.cube.specs.declared.pair.Pair.TheVariants.{S18H6, S26H6, S6H18}

pub record Samples : Type 0 where
  -- A cube of one kind lays nothing, under any pair.
  pub hollow : (p : Pair) → triangles p (kinds 0) ≡ []
  pub solid : (p : Pair) → triangles p (kinds 255) ≡ []
  -- One solid voxel, and two that share a link.
  pub one : triangles S18H6 (kinds 1) ≡ triangle 0 4 8 ∷ []
  pub linked : triangles S18H6 (kinds 3) ≡ triangle 4 8 5 ∷ triangle 5 8 9 ∷ []
  -- Two solid voxels across a face: joined, or parted.
  pub across : triangles S18H6 (kinds 9) ≡ triangle 0 5 8 ∷ triangle 5 11 8 ∷ triangle 1 8 11 ∷ triangle 1 4 8 ∷ []
  pub parted : triangles S6H18 (kinds 9) ≡ triangle 0 4 8 ∷ triangle 1 5 11 ∷ []
  -- Two solid voxels across the cube: parted, or joined by a tube.
  pub opposite : triangles S18H6 (kinds 129) ≡ triangle 0 4 8 ∷ triangle 3 11 7 ∷ []
  pub tube : triangles S26H6 (kinds 129) ≡
      triangle 0 4 11 ∷ triangle 3 4 8 ∷ triangle 0 7 8 ∷ triangle 3 11 4 ∷ triangle 0 11 7 ∷ triangle 3 8 7 ∷ []
  -- The walk round each face passes the links between its voxels.
  pub walks : (f : Face) → In f faces → Walked f
