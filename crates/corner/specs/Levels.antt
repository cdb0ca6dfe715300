-- The level that a surface lies at between two readings. Assumes nothing.
use Rattle.std.specs.Prelude.{◌≡◌, ℕ, ◌+◌, ◌-◌, ◌*◌, ◌<◌, ◌⊎◌}
use Rattle.drawing.specs.declared.letter.SolidTest.{SolidTest}

-- Twice the level under a test of what is solid: under both letters it is half a step below the threshold. Readings are
-- whole, so none is level with the surface.
abbrev pub twice_level : SolidTest → ℕ
twice_level test = 2 * test.threshold - 1

-- The surface crosses a link when a level, told doubled, lies strictly between the readings at its ends.
abbrev pub Crosses : (level low high : ℕ) → Type 0
Crosses level low high = ((2 * low < level) × (level < 2 * high)) ⊎ ((2 * high < level) × (level < 2 * low))

-- The straight line from the lower reading to the upper passes a level, told doubled, at n / d of the way:
-- there 2 * low + (2 * high - 2 * low) * n / d is the level. Both sides are times d, and what is taken away stands on the right.
abbrev pub PassesAt : (level low high n d : ℕ) → Type 0
PassesAt level low high n d = 2 * low * d + 2 * high * n ≡ level * d + 2 * low * n
