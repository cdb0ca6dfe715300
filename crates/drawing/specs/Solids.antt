-- Which readings, and so which voxels of a scan, are solid. Assumes nothing.
use Rattle.std.specs.Prelude.{ℕ, Bool, false, Ok, Err, nat_le, nat_lt}
use Rattle.scan.specs.Meaning.{Answer, Meaning}
use Rattle.surface.specs.Places.{Solids}
use Rattle.drawing.specs.declared.letter.Letter.{Letter}
use Rattle.drawing.specs.declared.letter.Letter.TheVariants.{H, L}
use Rattle.drawing.specs.declared.letter.SolidTest.{SolidTest}

-- Under H at least the threshold is solid, under L what is below it.
abbrev pub solid_by : Letter → ℕ → ℕ → Bool
solid_by H threshold reading = nat_le threshold reading
solid_by L threshold reading = nat_lt reading threshold

abbrev pub is_solid : SolidTest → ℕ → Bool
is_solid t reading = solid_by t.letter t.threshold reading

-- The other letter, at the same threshold.
abbrev pub other : Letter → Letter
other H = L
other L = H

abbrev pub exchanged : SolidTest → SolidTest
exchanged t = record { threshold = t.threshold; letter = other t.letter }

-- A place with a fault is of neither kind; where the kinds of all places are asked for it counts as not solid.
abbrev pub solid_answer : SolidTest → Answer → Bool
solid_answer t (Ok reading) = is_solid t reading
solid_answer t (Err f) = false

-- The kinds that a test makes of a scan.
abbrev pub solids_of : SolidTest → Meaning → Solids
solids_of t m v = solid_answer t (m.at v)
