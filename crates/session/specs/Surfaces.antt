-- What a list of calls has laid, by the rules of the surface. Assumes nothing.
use Rattle.std.specs.Prelude.{◌≡◌, ℕ, ◌<◌, List, [], map, length}
use Rattle.cube.specs.Lists.{In}
use Rattle.scan.specs.Meaning.{Meaning}
use Rattle.tray.specs.declared.triangle.Triangle.{Triangle}
use Rattle.surface.specs.Places.{low_of}
use Rattle.surface.specs.Laid.{edges, back}
use Rattle.surface.specs.Fronts.{OneBorder, Fronted}
use Rattle.surface.specs.Whole.{Whole}
use Rattle.drawing.specs.Laying.{corners, surface, Readable}
use Rattle.drawing.specs.Solids.{solids_of}
use Rattle.drawing.specs.declared.drawing.Drawing.{Drawing}
use Rattle.session.specs.declared.state.State.{State}
use Rattle.session.specs.declared.state.State.TheVariants.{Unopened, Opened, Finished}

-- What was laid for a drawing is what the rules give for its drawn cubes, cube after cube. The laws of the surface hold of
-- it, in `whole`: no directed edge is laid twice, and the ends of an edge's links are joined in the cube that laid it. And
-- since the border is of one kind, just the edges on the front lack their reverse.
pub record LaidFor (m : Meaning) (d : Drawing) (laid : List Triangle) : Type 0 where
  pub of_scan : d.sides ≡ m.sides
  pub border : OneBorder d.sides (solids_of d.test m)
  pub read : (n : ℕ) → n < d.cubes → Readable m (low_of d.sides n)
  pub rules : map corners laid ≡ surface m d d.cubes
  pub count : d.triangles ≡ length laid
  pub whole : Whole d.sides d.pair (solids_of d.test m) d.cubes
  pub front : Fronted d.sides d.pair (solids_of d.test m) d.cubes

-- Every edge is laid the other way too.
abbrev pub Shut : List Triangle → Type 0
Shut laid = (e : ℕ × ℕ) → In e (edges (map corners laid)) → In (back e) (edges (map corners laid))

-- Before an opening is accepted nothing is laid; when a drawing is closed, the surface is.
abbrev pub Surfaced : Meaning → State → List Triangle → Type 0
Surfaced m Unopened laid = laid ≡ []
Surfaced m (Opened d) laid = LaidFor m d laid
Surfaced m (Finished c) laid = LaidFor m c.drawing laid × Shut laid
