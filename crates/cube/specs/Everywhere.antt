-- A test of every cube, and of every connectedness. Assumes nothing.
use Rattle.std.specs.Prelude.{Bool, true, false, ◌&&◌}
use Rattle.cube.specs.Cube.{Kinds}
use Rattle.cube.specs.declared.pair.Connectedness.{Connectedness}
use Rattle.cube.specs.declared.pair.Connectedness.TheVariants.{Six, Eighteen, TwentySix}

-- A test passes whichever of two kinds a voxel has, and of all kinds that a cube can have.
abbrev pub either : (Bool → Bool) → Bool
either f = f true && f false

abbrev pub kinds_of : Bool → Bool → Bool → Bool → Bool → Bool → Bool → Bool → Kinds
kinds_of a b c d e f g h = record { v0 = a; v1 = b; v2 = c; v3 = d; v4 = e; v5 = f; v6 = g; v7 = h }

abbrev pub all_kinds : (Kinds → Bool) → Bool
all_kinds t =
    either λ a. either λ b. either λ c. either λ d. either λ e. either λ f. either λ g. either λ h. t (kinds_of a b c d e f g h)

-- A test passes under each connectedness.
abbrev pub each : (Connectedness → Bool) → Bool
each t = t Six && t Eighteen && t TwentySix
