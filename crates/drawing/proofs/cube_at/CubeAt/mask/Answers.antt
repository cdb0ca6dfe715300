use Rattle.std.proofs.Common.{ℕ, ◌<◌, ◌∙◌, arith}
use Rattle.drawing.proofs.cube_at.CubeAt.mask.Goals as goal

pub returns : goal.returns
returns g c =
    let all : (j : ℕ) → j < 8 → j < c.loop-i.i = λ j h. omega arith in
    let kind = c.loop-i.invariant.kinds in (
      λ j h. c.loop-i.invariant.read j (all j h),
      c.of.ensures
          ∙ (λ t. record {
            v0 = kind 0 (omega arith) t;
            v1 = kind 1 (omega arith) t;
            v2 = kind 2 (omega arith) t;
            v3 = kind 3 (omega arith) t;
            v4 = kind 4 (omega arith) t;
            v5 = kind 5 (omega arith) t;
            v6 = kind 6 (omega arith) t;
            v7 = kind 7 (omega arith) t;
          }),
    )
