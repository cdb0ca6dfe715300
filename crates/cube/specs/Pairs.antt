-- The pairs of connectedness, and which voxels of a cube they connect. Assumes nothing.
use Rattle.std.specs.Prelude.{ℕ, ◌+◌, ◌≤◌, Bool, true, false, ◌==◌}
use Rattle.cube.specs.Cube.{dx, dy, dz}
use Rattle.cube.specs.declared.pair.Connectedness.{Connectedness}
use Rattle.cube.specs.declared.pair.Connectedness.TheVariants.{Six, Eighteen, TwentySix}
use Rattle.cube.specs.declared.pair.Pair.{Pair}
use Rattle.cube.specs.declared.pair.Pair.TheVariants.{S18H6, S26H6, S6H18, S6H26}

-- The connectedness of solid and of hollow under a pair.
abbrev pub of_solid : Pair → Connectedness
of_solid S18H6 = Eighteen
of_solid S26H6 = TwentySix
of_solid S6H18 = Six
of_solid S6H26 = Six

abbrev pub of_hollow : Pair → Connectedness
of_hollow S18H6 = Six
of_hollow S26H6 = Six
of_hollow S6H18 = Eighteen
of_hollow S6H26 = TwentySix

-- A pair swapped: solid has the connectedness that hollow had, and hollow that of solid.
abbrev pub swap : Pair → Pair
swap S18H6 = S6H18
swap S26H6 = S6H26
swap S6H18 = S18H6
swap S6H26 = S26H6

-- The number by which a connectedness is known, and the two numbers of a pair.
abbrev pub number : Connectedness → ℕ
number Six = 6
number Eighteen = 18
number TwentySix = 26

abbrev pub numbers : Pair → ℕ × ℕ
numbers p = (number (of_solid p), number (of_hollow p))

-- In how many coordinates two voxels of a cube differ.
abbrev pub differ : Bool → ℕ
differ true = 0
differ false = 1

abbrev pub apart : ℕ → ℕ → ℕ
apart i j = differ (dx i == dx j) + differ (dy i == dy j) + differ (dz i == dz j)

-- The most coordinates in which two connected voxels differ.
abbrev pub reach : Connectedness → ℕ
reach Six = 1
reach Eighteen = 2
reach TwentySix = 3

abbrev pub Connected : Connectedness → ℕ → ℕ → Type 0
Connected c i j = (1 ≤ apart i j) × (apart i j ≤ reach c)
