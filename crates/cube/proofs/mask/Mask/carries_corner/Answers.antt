use Rattle.std.proofs.Common.{◌≡◌, ℕ, ◌<◌, ◌≤◌, Bool, true, false, not, Option, None, Some, refl, ap, ◌∙◌, rules, arith}
use Rattle.std.specs.Option.{MatchOption, IsSome, IfSome}
use mathlib.Core.Bool.{beq}
use Rattle.cube.specs.Cube.{Kinds, kinds, solid, crossing, lower, upper}
use Rattle.cube.proofs.mask.Mask.carries_corner.Goals as goal

abbrev unlike : Kinds → ℕ × ℕ → Bool
unlike k e = not (beq (solid k e.0) (solid k e.1))

unlike_is : (a b : Bool) → not (beq a b) ≡ elim a [ true ↦ not b | false ↦ b ]
unlike_is true true = refl
unlike_is true false = refl
unlike_is false true = refl
unlike_is false false = refl

-- The answer at the ends of a link, and at none.
at_ends : (k : Kinds) (l : ℕ) (b : Bool) (ends : Option (ℕ × ℕ)) → (IsSome ends → l < 12) × (l < 12 → IsSome ends)
    → IfSome ends (λ e. e ≡ (lower l, upper l)) → MatchOption ends (b ≡ false) (λ e. b ≡ unlike k e)
    → (l < 12 → b ≡ crossing k l) × (12 ≤ l → b ≡ false)
at_ends k l b None within value answer = (λ h. let z : ⊥ = let some = within.1 h in cc in absurd z, λ h. answer)
at_ends k l b (Some e) within value answer = (
  λ h. answer ∙ ap (unlike k) value ∙ unlike_is (solid k (lower l)) (solid k (upper l)),
  λ h. let z : ⊥ = let below = within.0 refl in omega arith in absurd z,
)

pub returns : goal.returns
returns c =
    at_ends (kinds c.args.self.0) c.args.link c.is_some_and.result c.ends.result c.ends.ensures.within c.ends.ensures.value (search rules)
