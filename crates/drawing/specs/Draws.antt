-- What a draw does: the most cubes that may be drawn, laid in order, and why there it ended. Assumes nothing.
use Rattle.std.specs.Prelude.{◌≡◌, ℕ, ◌+◌, ◌<◌, ◌≤◌, List, ◌++◌, map, length, Ok, Err, Result, ◌≢◌}
use Rattle.grid.specs.Cubes.{cube_count}
use Rattle.scan.specs.Meaning.{Meaning}
use Rattle.tray.specs.Holding.{Held, added_all}
use Rattle.tray.specs.declared.triangle.Triangle.{Triangle}
use Rattle.surface.specs.Places.{low_of}
use Rattle.drawing.specs.Laying.{corners, surface, Readable, Halts}
use Rattle.drawing.specs.declared.drawing.Drawing.{Drawing}
use Rattle.drawing.specs.declared.progress.DrawRefusal.{DrawRefusal}
use Rattle.drawing.specs.declared.progress.DrawRefusal.TheVariants.{OtherSides, ZeroBudget}
use Rattle.drawing.specs.declared.progress.Ending.{Ending}
use Rattle.drawing.specs.declared.progress.Ending.TheVariants.{Done, Budget, Lacking, Full}
use Rattle.drawing.specs.declared.progress.Progress.{Progress}

-- So many further cubes may be drawn: the budget, the cubes left, their readings and the free places allow it.
pub record Allowed (m : Meaning) (d : Drawing) (free budget k : ℕ) : Type 0 where
  pub budgeted : k ≤ budget
  pub cubes : d.cubes + k ≤ cube_count d.sides
  pub read : (n : ℕ) → d.cubes ≤ n → n < d.cubes + k → Readable m (low_of d.sides n)
  pub room : length (surface m d (d.cubes + k)) ≤ length (surface m d d.cubes) + free

-- The greatest number of which something holds.
pub record Greatest (P : ℕ → Type 0) (k : ℕ) : Type 0 where
  pub holds : P k
  pub most : (j : ℕ) → P j → j ≤ k

-- Why a draw ends after k cubes with so many places free: all cubes are drawn; or the budget is used up; or the next
-- cube cannot be drawn.
abbrev pub Ends : Meaning → Drawing → (budget k free : ℕ) → Ending → Type 0
Ends m d budget k free Done = d.cubes + k ≡ cube_count d.sides
Ends m d budget k free Budget = (d.cubes + k < cube_count d.sides) × (k ≡ budget)
Ends m d budget k free (Lacking cube fault) =
    (d.cubes + k < cube_count d.sides) × (k < budget) × Halts m d (d.cubes + k) free (Lacking cube fault)
Ends m d budget k free (Full triangles told) =
    (d.cubes + k < cube_count d.sides) × (k < budget) × Halts m d (d.cubes + k) free (Full triangles told)

-- A draw: from a drawing and a tray to those after it, with what it answers.
pub record Drawn (m : Meaning) (budget : ℕ) (d : Drawing) (h : Held) (p : Progress) (d' : Drawing) (h' : Held) : Type 0 where
  -- The cubes drawn are the most that may be.
  pub cubes : Greatest (Allowed m d h.free budget) p.drawn
  -- The triangles laid are those of the cubes drawn, in order, and they go to the end of the tray.
  pub triangles : List Triangle
  pub rules : surface m d (d.cubes + p.drawn) ≡ surface m d d.cubes ++ map corners triangles
  pub tray : h' ≡ added_all h triangles
  -- The answer tells their number, the cubes left, and why there are no more.
  pub laid : p.laid ≡ length triangles
  pub left : d.cubes + p.drawn + p.left ≡ cube_count d.sides
  pub ending : Ends m d budget p.drawn h'.free p.ending
  -- The drawing goes on from there.
  pub same_sides : d'.sides ≡ d.sides
  pub same_test : d'.test ≡ d.test
  pub same_pair : d'.pair ≡ d.pair
  pub cubes_after : d'.cubes ≡ d.cubes + p.drawn
  pub triangles_after : d'.triangles ≡ d.triangles + p.laid

-- A draw is refused over other sides, then over a budget of 0, and nothing changes.
abbrev pub Draws : Meaning → ℕ → Drawing → Held → Result Progress DrawRefusal → Drawing → Held → Type 0
Draws m budget d h (Ok p) d' h' = (d.sides ≡ m.sides) × (budget ≢ 0) × Drawn m budget d h p d' h'
Draws m budget d h (Err OtherSides) d' h' = (d.sides ≢ m.sides) × (d' ≡ d) × (h' ≡ h)
Draws m budget d h (Err ZeroBudget) d' h' = (d.sides ≡ m.sides) × (budget ≡ 0) × (d' ≡ d) × (h' ≡ h)
