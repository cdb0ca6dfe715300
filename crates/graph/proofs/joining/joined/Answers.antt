use Rattle.std.proofs.Common.{ℕ, ◌≡◌, ◌<◌, Bool, true, false, T, ltb, get_or, MatchBool, sym, subst, arith, ltb→lt}
use Rattle.cube.specs.Cube.{Kinds, solid, voxels, kinds}
use Rattle.cube.specs.Joined.{reached}
use Rattle.cube.proofs.Listed.{every_at}
use Rattle.cube.proofs.Reached.{reached_joined}
use Rattle.cube.proofs.Voxels.{solid_voxel}
use Rattle.graph.proofs.Closed.{joined_reached, ends}
use Rattle.graph.proofs.joining.joined.Goals as goal

-- A test that tells whether P holds.
tells : {P : Type 0} (b : Bool) → (T b → P) → (P → T b) → MatchBool b P (P → ⊥)
tells true yes' no' = yes' tt
tells false yes' no' = no'

solid_below : (k : Kinds) (i : ℕ) → T (solid k i) → i < 8
solid_below k i t = ltb→lt i 8 (every_at (λ j. ltb j 8) voxels tt i (solid_voxel k i t))

pub returns-then-b-lt8 : goal.returns-then-b-lt8
returns-then-b-lt8 c =
    let k = kinds c.args.mask.0 in
    let same : c.reached.result ≡ reached c.args.c k c.args.a = c.reached.ensures in
    tells (get_or c.reached.result c.args.b false)
    (λ t. reached_joined c.args.c k c.args.a c.args.b (subst (λ m. T (get_or m c.args.b false)) same t))
    (λ j. subst (λ m. T (get_or m c.args.b false)) (sym same) (joined_reached c.args.c k c.args.a j))

pub returns-else-b-lt8 : goal.returns-else-b-lt8
returns-else-b-lt8 c =
    let k = kinds c.args.mask.0 in
    tells (ltb c.args.b 8)
    (λ t. let h = ltb→lt c.args.b 8 t in let z : ⊥ = omega arith in absurd z)
    (λ j. let h = solid_below k c.args.b (ends c.args.c k c.args.a j) in let z : ⊥ = omega arith in absurd z)
