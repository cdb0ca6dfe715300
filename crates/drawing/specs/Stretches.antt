-- Cubes drawn in a row, up to a number or to the first that cannot be drawn. Assumes nothing.
use Rattle.std.specs.Prelude.{◌≡◌, ℕ, ◌+◌, ◌*◌, ◌<◌, ◌≤◌, List, ◌++◌, map, length, MatchOption}
use Rattle.scan.specs.Meaning.{Meaning}
use Rattle.tray.specs.Holding.{Held, added_all, KeepsRest}
use Rattle.tray.specs.declared.triangle.Triangle.{Triangle}
use Rattle.surface.specs.Places.{low_of}
use Rattle.drawing.specs.Laying.{corners, surface, Readable, Halts}
use Rattle.drawing.specs.declared.drawing.Drawing.{Drawing}
use Rattle.drawing.specs.declared.stretch.Stretch.{Stretch}

-- The cubes from where a drawing stands up to, and without, cube n are drawn, in order and whole, into a tray.
pub record Reached {S : Type 0} (holds : S → Held) (keeps : ℕ → S → S → Type 0) (m : Meaning) (d : Drawing) (n : ℕ) (before after : S) (laid : ℕ) : Type 0 where
  pub triangles : List Triangle
  pub rules : surface m d n ≡ surface m d d.cubes ++ map corners triangles
  pub read : (c : ℕ) → d.cubes ≤ c → c < n → Readable m (low_of d.sides c)
  pub fit : length triangles ≤ (holds before).free
  pub list : holds after ≡ added_all (holds before) triangles
  pub rest : KeepsRest holds keeps before after
  pub count : laid ≡ length triangles
  pub few : laid + 6 * d.cubes ≤ 6 * n

-- All cubes before the end are drawn, or the next one cannot be.
pub record Stretched {S : Type 0} (holds : S → Held) (keeps : ℕ → S → S → Type 0) (m : Meaning) (d : Drawing) (end : ℕ) (before after : S) (r : Stretch) : Type 0 where
  pub reached : Reached holds keeps m d (d.cubes + r.drawn) before after r.laid
  pub ending : MatchOption r.stop (d.cubes + r.drawn ≡ end) (λ e. (d.cubes + r.drawn < end) × Halts m d (d.cubes + r.drawn) (holds after).free e)
