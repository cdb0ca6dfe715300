-- The loops of every cube have three to seven corners and share none. Assumes nothing.
use Rattle.std.proofs.Common.{ℕ, Bool, T, eqb, leb, List, length, leb→le, ◌&&◌}
use lib.Dec.{eqb_refl}
use Rattle.std.specs.List.{flat_map, list_all}
use Rattle.cube.specs.Cube.{Kinds}
use Rattle.cube.specs.Loops.{loops}
use Rattle.cube.specs.Laws.{Looped}
use Rattle.cube.specs.declared.pair.Connectedness.{Connectedness}
use Rattle.cube.proofs.Listed.{every_at, distinct, distinct_is, and_left, and_right}
use Rattle.cube.specs.Everywhere.{all_kinds, each}
use Rattle.cube.proofs.Everywhere.{everywhere_each}
use Rattle.cube.proofs.Sound.{cornered, all_cross, all_met}

abbrev sized : List ℕ → Bool
sized l = leb 3 (length l) && leb (length l) 7

abbrev parted : Kinds → List ℕ → Bool
parted k ls = distinct eqb eqb_refl ls && cornered k ls

abbrev looped_test : Connectedness → Kinds → Bool
looped_test c k = let ls = loops c k in list_all sized ls && parted k (flat_map (λ l. l) ls)

always_looped : T (all_kinds λ k. each λ c. looped_test c k)
always_looped = tt

pub looped : (c : Connectedness) (k : Kinds) → Looped k (loops c k)
looped c k =
    let ls = loops c k in
    let all = flat_map (λ l. l) ls in
    let t = everywhere_each looped_test always_looped c k in
    let s = and_left (list_all sized ls) (parted k all) t in
    let r = and_right (list_all sized ls) (parted k all) t in
    let m = and_right (distinct eqb eqb_refl all) (cornered k all) r in
    record {
      sized = λ l i.
          let h = every_at sized ls s l i in
          record {
            least = leb→le 3 (length l) (and_left (leb 3 (length l)) (leb (length l) 7) h);
            greatest = leb→le (length l) 7 (and_right (leb 3 (length l)) (leb (length l) 7) h);
          };
      apart = distinct_is eqb eqb_refl all (and_left (distinct eqb eqb_refl all) (cornered k all) r);
      corner = all_cross k all m;
      every_corner = all_met k all m;
    }
