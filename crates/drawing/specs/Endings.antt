-- The numbers by which the endings and refusals of a draw are told. Assumes nothing.
use Rattle.std.specs.Prelude.{ℕ, Some, None, Option}
use Rattle.drawing.specs.declared.progress.DrawRefusal.{DrawRefusal}
use Rattle.drawing.specs.declared.progress.DrawRefusal.TheVariants.{OtherSides, ZeroBudget}
use Rattle.drawing.specs.declared.progress.Ending.{Ending}
use Rattle.drawing.specs.declared.progress.Ending.TheVariants.{Done, Budget, Lacking, Full}

-- A draw that ends early tells why by a number; the other two endings have none.
abbrev pub ending_number : Ending → Option ℕ
ending_number Done = None
ending_number Budget = None
ending_number (Lacking cube fault) = Some 11
ending_number (Full triangles free) = Some 12

abbrev pub draw_number : DrawRefusal → ℕ
draw_number OtherSides = 9
draw_number ZeroBudget = 10
