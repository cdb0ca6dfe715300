-- Worked cases, by computation. Assumes nothing.
use Rattle.std.proofs.Common.{◌≡◌, false, negsuc, refl, inl, lit<}
use Rattle.std.specs.Float.Ieee
use Rattle.corner.proofs.Fractions.{fraction_is}
use Rattle.std.specs.Float.{Float, fin, binary32}
use lib.Ieee.{round}
use Rattle.cube.specs.Samples as cube
use Rattle.drawing.specs.declared.letter.Letter.{Letter}
use Rattle.corner.specs.Fractions.{IsFraction}
use Rattle.corner.specs.Levels.{twice_level}
use Rattle.corner.specs.Precision.{IsRatio, format, whole}
use Rattle.corner.specs.Samples.{Samples}

nine_eighteenths : round binary32 false 9 18 ≡ fin false 1 (negsuc 0)
unfolding round
nine_eighteenths = refl

halfway : (letter : Letter) → (x : Float) × IsFraction (twice_level (record { threshold = 5; letter = letter })) 0 9 x × IsRatio x 1 2
halfway letter =
    let x = Ieee.div format (whole format 9) (whole format 18) in
    let f : IsFraction 9 0 9 x = fraction_is 9 0 9 9 18 (inl (lit< tt, lit< tt)) (lit< tt) (lit< tt) refl refl in
    (x, f, rw (f.quotient.rounded, nine_eighteenths) (refl, refl))

-- With those of the cube.
pub worked : cube.Samples → Samples
worked in_cube = record { in_cube = in_cube; halfway = halfway }
