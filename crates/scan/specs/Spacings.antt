-- The spacing of a scan. Assumes nothing.
use Rattle.std.specs.Prelude.{◌≡◌, Result, MatchResult}
use Rattle.scan.specs.Making.{SpacingFits}
use Rattle.scan.specs.declared.lengths.Lengths.{Lengths}
use Rattle.scan.specs.declared.refusal.Refusal.{Refusal}
use Rattle.scan.specs.declared.refusal.Refusal.TheVariants as why
use Rattle.scan.specs.declared.spacing.Spacing.{Spacing}

-- The spacing is these lengths.
abbrev pub SpacingIs : Spacing → Lengths → Type 0
SpacingIs s l = (s.x ≡ l.x) × (s.y ≡ l.y) × (s.z ≡ l.z)

-- Lengths give the spacing that they are, or they are refused over the spacing since they can be none.
abbrev pub GivesSpacing : Lengths → Result Spacing Refusal → Type 0
GivesSpacing l r = MatchResult r (λ s. SpacingIs s l) (λ e. (e ≡ why.Spacing) × (SpacingFits l → ⊥))
