-- Each triangle of a cube turns its front to hollow, under each pair. Assumes nothing.
use Rattle.std.proofs.Common.{ℕ, Bool, T, not, ◌&&◌}
use Rattle.std.specs.Prelude.{pos, int_le}
use Rattle.std.specs.List.{list_all, list_any}
use Rattle.cube.specs.Lists.{In}
use Rattle.cube.specs.Cube.{Kinds}
use Rattle.cube.specs.Triangles.{triangles, cut_all, with_tube}
use Rattle.cube.specs.Laws.{corners_of, solid_end, hollow_end, in_front, Outward}
use Rattle.cube.specs.Everywhere.{all_kinds}
use Rattle.cube.specs.declared.pair.Pair.{Pair}
use Rattle.cube.specs.declared.pair.Pair.TheVariants.{S18H6, S26H6, S6H18, S6H26}
use Rattle.cube.specs.declared.triangle.CubeTriangle.{CubeTriangle}
use Rattle.cube.proofs.Listed.{every_at, some_at, and_left, and_right}
use Rattle.cube.proofs.Everywhere.{everywhere}

abbrev solid_at : Kinds → CubeTriangle → ℕ → Bool
solid_at k t l = int_le (in_front t (solid_end k l)) (pos 0)

abbrev hollow_at : Kinds → CubeTriangle → ℕ → Bool
hollow_at k t l = int_le (pos 0) (in_front t (hollow_end k l))

abbrev off_at : Kinds → CubeTriangle → ℕ → Bool
off_at k t l = not (int_le (in_front t (hollow_end k l)) (pos 0))

abbrev turned : Kinds → CubeTriangle → Bool
turned k t = list_all (solid_at k t) (corners_of t) && (list_all (hollow_at k t) (corners_of t) && list_any (off_at k t) (corners_of t))

abbrev all_turned : Pair → Kinds → Bool
all_turned p k = list_all (turned k) (triangles p k)

s18h6 : T (all_kinds (all_turned S18H6))
unfolding cut_all with_tube
s18h6 = tt

s26h6 : T (all_kinds (all_turned S26H6))
unfolding cut_all with_tube
s26h6 = tt

s6h18 : T (all_kinds (all_turned S6H18))
unfolding cut_all with_tube
s6h18 = tt

s6h26 : T (all_kinds (all_turned S6H26))
unfolding cut_all with_tube
s6h26 = tt

always : (p : Pair) → T (all_kinds (all_turned p))
always S18H6 = s18h6
always S26H6 = s26h6
always S6H18 = s6h18
always S6H26 = s6h26

pub outward : (p : Pair) (k : Kinds) (t : CubeTriangle) → In t (triangles p k) → Outward k t
outward p k t i =
    let h = every_at (turned k) (triangles p k) (everywhere (all_turned p) (always p) k) t i in
    let a = list_all (solid_at k t) (corners_of t) in
    let b = list_all (hollow_at k t) (corners_of t) in
    let c = list_any (off_at k t) (corners_of t) in
    let r = and_right a (b && c) h in
    record {
      solid_behind = every_at (solid_at k t) (corners_of t) (and_left a (b && c) h);
      hollow_in_front = every_at (hollow_at k t) (corners_of t) (and_left b c r);
      turned = some_at (off_at k t) (corners_of t) (and_right b c r);
    }
