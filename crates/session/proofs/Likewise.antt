-- Two drawings of one scan that stand alike, by a way of calling, lay alike. Assumes nothing.
use Rattle.std.proofs.Common.{◌≡◌, ℕ, ◌<◌, map, length, sym, ap, ◌∙◌, subst}
use lib.ListN.{length-map}
use Rattle.scan.specs.Meaning.{Meaning}
use Rattle.surface.specs.Places.{low_of}
use Rattle.surface.specs.Laid.{laid, laid_at}
use Rattle.drawing.specs.Laying.{surface, cube_lays, Readable}
use Rattle.drawing.specs.Solids.{solids_of}
use Rattle.drawing.specs.declared.drawing.Drawing.{Drawing}
use Rattle.session.specs.Ways.{Way, corners_by}
use Rattle.session.proofs.Lays.{test_by, pair_by, cube_by, lays_by}

-- What holds of two things holds of two that are the same.
pub carried : {X : Type 0} (R : X → X → Type 0) {x x' y y' : X} → y ≡ x → y' ≡ x' → R x x' → R y y'
carried R {x} {x'} {y} {y'} p q r = subst (λ z. R z y') (sym p) (subst (R x) (sym q) r)

-- Both are of the scan, the one asked as the other by the way, and as far: all drawn cubes have their readings.
pub record Likewise (way : Way) (m : Meaning) (d d' : Drawing) : Type 0 where
  pub of_scan : d.sides ≡ m.sides
  pub sides : d'.sides ≡ d.sides
  pub test : d'.test ≡ test_by way d.test
  pub pair : d'.pair ≡ pair_by way d.pair
  pub cubes : d'.cubes ≡ d.cubes
  pub triangles : d'.triangles ≡ d.triangles
  pub read : (n : ℕ) → n < d.cubes → Readable m (low_of d.sides n)

module _ (way : Way) (m : Meaning) (d d' : Drawing) (like : Likewise way m d d') where
  -- The triangles of one cube.
  pub cube_like : (n : ℕ) → Readable m (low_of d.sides n) → cube_lays m d' n ≡ map (corners_by way) (cube_lays m d n)
  cube_like n read =
      (λ i. laid_at (like.sides i) (like.pair i) (solids_of (like.test i) m) (low_of (like.sides i) n))
      ∙ cube_by m d.sides d.pair d.test way (low_of d.sides n) read

  -- The triangles of the first n cubes.
  pub surface_like : (n : ℕ) → ((c : ℕ) → c < n → Readable m (low_of d.sides c))
      → surface m d' n ≡ map (corners_by way) (surface m d n)
  surface_like n read =
      (λ i. laid (like.sides i) (like.pair i) (solids_of (like.test i) m) n)
      ∙ lays_by m d.sides d.pair d.test way n read

  -- There are as many.
  pub as_many_in_cube : (n : ℕ) → Readable m (low_of d.sides n) → length (cube_lays m d' n) ≡ length (cube_lays m d n)
  as_many_in_cube n read = ap length (cube_like n read) ∙ length-map (cube_lays m d n) (corners_by way)

  pub as_many : (n : ℕ) → ((c : ℕ) → c < n → Readable m (low_of d.sides c)) → length (surface m d' n) ≡ length (surface m d n)
  as_many n read = ap length (surface_like n read) ∙ length-map (surface m d n) (corners_by way)
