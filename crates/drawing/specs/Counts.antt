-- How many triangles a cube has that was drawn. Assumes nothing.
use Rattle.std.specs.Prelude.{ℕ, Ok, Err, Result}
use Rattle.drawing.specs.declared.laying.LaidCube.{LaidCube}
use Rattle.drawing.specs.declared.progress.Ending.{Ending}

abbrev pub count_of : Result LaidCube Ending → Result ℕ Ending
count_of (Ok c) = Ok c.count
count_of (Err e) = Err e
