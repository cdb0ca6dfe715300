-- What the makers of scans refuse. Assumes nothing.
use Rattle.std.specs.Prelude.{◌≡◌, ℕ, ◌≤◌, Result, MatchResult}
use Rattle.grid.specs.Numbers.{Side}
use Rattle.grid.specs.declared.axis.Axis.{Axis}
use Rattle.grid.specs.declared.axis.Axis.TheVariants.{X, Y, Z}
use Rattle.grid.specs.declared.sides.Sides.{Sides}
use Rattle.scan.specs.declared.lengths.Lengths.{Lengths}
use Rattle.scan.specs.declared.refusal.Refusal.{Refusal}
use Rattle.scan.specs.declared.refusal.Refusal.TheVariants.{Size, Spacing, Shapes}

-- The refusals by number.
abbrev pub number : Refusal → ℕ
number Size = 1
number Spacing = 2
number Shapes = 3

-- Neighbouring voxels lie 1 to 10,000 whole micrometres apart.
abbrev pub Step : ℕ → Type 0
Step n = (1 ≤ n) × (n ≤ 10000)

-- Of three lengths, the one along an axis.
abbrev pub per_axis : Axis → (x y z : ℕ) → ℕ
per_axis X x y z = x
per_axis Y x y z = y
per_axis Z x y z = z

-- Lengths that can be the sides of a scan.
abbrev pub SidesFit : Lengths → Type 0
SidesFit l = Side l.x × Side l.y × Side l.z

-- Lengths that can be its spacing.
abbrev pub SpacingFits : Lengths → Type 0
SpacingFits l = Step l.x × Step l.y × Step l.z

-- The sides are these lengths.
abbrev pub SidesAre : Sides → Lengths → Type 0
SidesAre s l = (s.x ≡ l.x) × (s.y ≡ l.y) × (s.z ≡ l.z)

-- Lengths give the sides that they are, or they are refused over the size since they can be none.
abbrev pub GivesSides : Lengths → Result Sides Refusal → Type 0
GivesSides l r = MatchResult r (λ s. SidesAre s l) (λ e. (e ≡ Size) × (SidesFit l → ⊥))

-- The first refusal that applies, where the size is right, the spacing and the shapes.
abbrev pub Refused : Refusal → (size spacing shapes : Type 0) → Type 0
Refused Size size spacing shapes = size → ⊥
Refused Spacing size spacing shapes = size × (spacing → ⊥)
Refused Shapes size spacing shapes = size × spacing × (shapes → ⊥)
