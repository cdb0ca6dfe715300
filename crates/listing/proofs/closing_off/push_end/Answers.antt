use Rattle.std.proofs.Common.{ℕ, ◌<◌, ◌≤◌, ◌⊎◌, List, Some, None, Option, refl, ⊎_elim, arith, ap}
use Rattle.std.specs.Option.{IsSome, MatchOption}
use Rattle.listing.proofs.Bounds.{counts_small}
use Rattle.listing.proofs.closing_off.push_end.Goals as goal

there : (cubes triangles : ℕ) (r : Option (List ℕ)) (Q : List ℕ → Type 0) → cubes < 100000000 → triangles < 100000000
    → MatchOption r ((100000000 ≤ cubes) ⊎ (100000000 ≤ triangles)) Q → IsSome r
there cubes triangles None Q a b h = absurd (⊎_elim (λ (l : 100000000 ≤ cubes). omega arith) (λ (l : 100000000 ≤ triangles). omega arith) h)
there cubes triangles (Some line) Q a b h = refl

pub unwrap-last-requires : goal.unwrap-last-requires
unwrap-last-requires c =
    let small = counts_small c.unwrap.result.drawing in
    let report = c.report-cubes.ensures in
    there c.report-cubes.result.cubes c.report-cubes.result.triangles c.end_line.result _
    (omega (arith, small.0, ap (λ x. x.cubes) report)) (omega (arith, small.1, ap (λ x. x.triangles) report)) c.end_line.ensures
