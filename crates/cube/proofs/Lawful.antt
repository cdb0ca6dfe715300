-- The triangles of every cube keep the laws, under each pair. Assumes nothing.
use Rattle.std.proofs.Common.{◌≡◌, Bool, true, false, not, leb, List, [], ◌∷◌, map, length, sym, refl, ap, leb→le, ◌&&◌}
use Rattle.std.specs.List.{flat_map}
use Rattle.cube.specs.Cube.{Kinds, exchange}
use Rattle.cube.specs.Pairs.{swap}
use Rattle.cube.specs.Triangles.{triangles, cut_all, with_tube, turn_over}
use Rattle.cube.specs.Laws.{edges, corners_of, most, Lawful}
use Rattle.cube.specs.declared.pair.Connectedness.TheVariants.{Eighteen}
use Rattle.cube.specs.declared.pair.Pair.{Pair}
use Rattle.cube.specs.declared.pair.Pair.TheVariants.{S18H6, S26H6, S6H18, S6H26}
use Rattle.cube.specs.declared.triangle.CubeTriangle.{CubeTriangle}
use Rattle.cube.proofs.Listed.{and_left, and_right}
use Rattle.cube.proofs.Everywhere.{everywhere}
use Rattle.cube.proofs.Sound.{edged, cornered, sound, once, graphed, drawn, back, solids, hollows, all_cross, all_met}
use Rattle.cube.proofs.Computed.{always_sound}
use Rattle.cube.proofs.Outward.{outward}

not_not : (b : Bool) → not (not b) ≡ b
not_not true = refl
not_not false = refl

pub exchange_twice : (k : Kinds) → exchange (exchange k) ≡ k
exchange_twice k i =
    record {
      v0 = not_not k.v0 i;
      v1 = not_not k.v1 i;
      v2 = not_not k.v2 i;
      v3 = not_not k.v3 i;
      v4 = not_not k.v4 i;
      v5 = not_not k.v5 i;
      v6 = not_not k.v6 i;
      v7 = not_not k.v7 i;
    }

over_twice : (ts : List CubeTriangle) → map turn_over (map turn_over ts) ≡ ts
over_twice [] = refl
over_twice (t ∷ ts) = ap (λ us. t ∷ us) (over_twice ts)

-- Kinds exchanged and the pair swapped turn every triangle over.
pub mirrored : (p : Pair) (k : Kinds) → triangles (swap p) (exchange k) ≡ map turn_over (triangles p k)
mirrored S18H6 k = ap (λ j. map turn_over (cut_all Eighteen j)) (exchange_twice k)
mirrored S26H6 k = ap (λ j. map turn_over (with_tube j)) (exchange_twice k)
mirrored S6H18 k = sym (over_twice (cut_all Eighteen (exchange k)))
mirrored S6H26 k = sym (over_twice (with_tube (exchange k)))

pub lawful : (p : Pair) (k : Kinds) → Lawful p k (triangles p k)
lawful p k =
    let ts = triangles p k in
    let es = edges ts in
    let ls = flat_map corners_of ts in
    let t = everywhere (sound p) (always_sound p) k in
    let rest = cornered k ls && leb (length ts) (most p k) in
    let e = and_left (edged p k es) rest t in
    let r = and_right (edged p k es) rest t in
    let c = and_left (cornered k ls) (leb (length ts) (most p k)) r in
    record {
      once = once p k es e;
      on_graph = graphed p k es e;
      whole_graph = drawn p k es e;
      chord = back p k es e;
      corner = all_cross k ls c;
      every_corner = all_met k ls c;
      solid_ends = solids p k es e;
      hollow_ends = hollows p k es e;
      outward = outward p k;
      few = leb→le (length ts) (most p k) (and_right (cornered k ls) (leb (length ts) (most p k)) r);
      mirror = mirrored p k;
    }
