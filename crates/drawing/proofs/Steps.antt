-- From each cube to the next by number. Assumes nothing.
use Rattle.std.proofs.Common.{◌≡◌, ℕ, ◌+◌, ◌<◌, ◌≤◌, Option, MatchOption, Some, None, sym, ap, ◌∙◌, arith}
use Rattle.grid.specs.Cubes.{Low, cube_count, cube_number}
use Rattle.grid.specs.Numbers.{place_count, voxel_number}
use Rattle.grid.specs.declared.sides.Sides.{Sides}
use Rattle.grid.specs.declared.voxel.Voxel.{Voxel}
use Rattle.surface.specs.Places.{low_of}
use Rattle.surface.proofs.Numbered.{low_back, low_number}
use Rattle.drawing.specs.declared.cube_at.CubeAt.{CubeAt}

-- A cube with the next number lies at its low voxel.
pub next_is : (s : Sides) (low next : Voxel) → Low s next → cube_number s next ≡ cube_number s low + 1 → next ≡ low_of s (cube_number s low + 1)
next_is s low next h e = sym (low_back s next h) ∙ ap (low_of s) e

-- Past the last place of a row comes the first of the next row, past the last row the first of the next layer, and past the last layer none.
pub row_next : (nx ny x y z : ℕ) → nx ≡ x + 1 → voxel_number nx ny 0 (y + 1) z ≡ voxel_number nx ny x y z + 1
row_next nx ny x y z hx = rw hx (omega arith)

pub layer_next : (nx ny x y z : ℕ) → nx ≡ x + 1 → ny ≡ y + 1 → voxel_number nx ny 0 0 (z + 1) ≡ voxel_number nx ny x y z + 1
layer_next nx ny x y z hx hy = rw (hx, hy) (omega arith)

pub none_next : (nx ny nz x y z : ℕ) → nx ≡ x + 1 → ny ≡ y + 1 → nz ≡ z + 1 → place_count nx ny nz ≤ voxel_number nx ny x y z + 1
none_next nx ny nz x y z hx hy hz = rw (hx, hy, hz) (omega arith)

-- What a step tells of the cube with a number.
pub stepped : (s : Sides) (n : ℕ) (at : CubeAt) (o : Option CubeAt) → n < cube_count s → (at.sides ≡ s) × (at.low ≡ low_of s n)
    → MatchOption o (cube_count at.sides ≤ cube_number at.sides at.low + 1) (λ c. (c.sides ≡ at.sides) × (c.low ≡ low_of at.sides (cube_number at.sides at.low + 1)))
    → MatchOption o (cube_count s ≤ n + 1) (λ c. (c.sides ≡ s) × (c.low ≡ low_of s (n + 1)))
stepped s n at o h here step = go o step
  where
    number : cube_number at.sides at.low ≡ n
    number = ap (λ t. cube_number t at.low) here.0 ∙ ap (cube_number s) here.1 ∙ low_number s n h

    go : (o : Option CubeAt) → MatchOption o (cube_count at.sides ≤ cube_number at.sides at.low + 1) (λ c. (c.sides ≡ at.sides) × (c.low ≡ low_of at.sides (cube_number at.sides at.low + 1)))
        → MatchOption o (cube_count s ≤ n + 1) (λ c. (c.sides ≡ s) × (c.low ≡ low_of s (n + 1)))
    go None step = omega (arith, step, number, ap cube_count here.0)
    go (Some c) step = (step.0 ∙ here.0, step.1 ∙ ap (λ t. low_of t (cube_number at.sides at.low + 1)) here.0 ∙ ap (λ k. low_of s (k + 1)) number)
