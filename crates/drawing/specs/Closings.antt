-- Which drawings are closed, and what a closed one reports. Assumes nothing.
use Rattle.std.specs.Prelude.{◌≡◌, ℕ, ◌<◌, Ok, Err, Result}
use Rattle.grid.specs.Cubes.{cube_count}
use Rattle.drawing.specs.declared.closed.Closed.{Closed}
use Rattle.drawing.specs.declared.cubes_left.CubesLeft.{CubesLeft}
use Rattle.drawing.specs.declared.drawing.Drawing.{Drawing}
use Rattle.drawing.specs.declared.report.Report.{Report}
use Rattle.drawing.specs.declared.unfinished.Unfinished.{Unfinished}

-- The refusal to close by number, with the drawing and without.
abbrev pub unfinished_number : Unfinished → ℕ
unfinished_number refusal = 13

abbrev pub close_number : CubesLeft → ℕ
close_number refusal = unfinished_number (record {})

-- A drawing is closed as it is when no cube is left, and else handed back as it was.
abbrev pub Closes : Drawing → Result Closed CubesLeft → Type 0
Closes d (Ok c) = (d.cubes ≡ cube_count d.sides) × (c.drawing ≡ d)
Closes d (Err refusal) = (d.cubes < cube_count d.sides) × (refusal.drawing ≡ d)

-- The totals of a closed drawing.
abbrev pub report_of : Closed → Report
report_of c = record { cubes = c.drawing.cubes; triangles = c.drawing.triangles }
