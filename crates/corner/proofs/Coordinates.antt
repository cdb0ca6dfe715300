-- A corner's coordinate lies from that of its lower voxel to that of its upper. Assumes nothing.
use Rattle.std.proofs.Common.{◌≡◌, ℕ, ℤ, ◌+◌, ◌*◌, ◌^◌, ◌<◌, ◌≤◌, true, false, T, refl, subst, arith}
use Rattle.std.proofs.Math.Nat.{mul-le-mul_left}
use Rattle.std.proofs.lemmas.Float.{le_of_lt}
use Rattle.std.proofs.lemmas.Nat.{pow_pos, mul-le}
use Rattle.std.specs.Float.{Float, Format, nan, inf, fin, float_one, ◌≤ᶠ◌}
use Rattle.std.specs.Float.Ieee
use lib.Ieee.{up, down, round, prec, low, lt, le, eq}
use lib.Ieee.Fits.{down_pos}
use lib.Ieee.Order.{round_mono}
use lib.Ieee.Scale.{grid, finite, round_val, round_under}
use Rattle.corner.specs.Coordinates.{of_voxel, of_corner, IsVoxelCoordinate, IsCornerCoordinate}
use Rattle.corner.specs.Fractions.{IsProper}
use Rattle.corner.specs.Precision.{format, whole, IsRatio}
use Rattle.corner.proofs.Values.{conversion, whole_exact, by_both, larger_terms, one_ratio, ratios_of_le, sum_is, product_is}

-- A float that lies between 0 and 1 is a ratio.
record Ratio (x : Float) : Type 0 where
  upper : ℕ
  lower : ℕ
  some : 0 < lower
  ratio : IsRatio x upper lower

ratio_of : (x : Float) → IsProper x → Ratio x
unfolding lt
ratio_of nan inside = absurd inside.above_zero
ratio_of (inf true) inside = absurd inside.above_zero
ratio_of (inf false) inside = absurd inside.below_one
ratio_of (fin true m e) inside = absurd inside.above_zero
ratio_of (fin false m e) inside = record { upper = m * up e; lower = down e; some = down_pos e; ratio = (refl, refl) }

-- What lies between two finite floats is finite.
finite_between : (x : Float) (m : ℕ) (e : ℤ) (n : ℕ) (g : ℤ) → fin false m e ≤ᶠ x → x ≤ᶠ fin false n g → T (finite x)
unfolding le lt eq
finite_between nan m e n g from to = absurd from
finite_between (inf true) m e n g from to = absurd from
finite_between (inf false) m e n g from to = absurd to
finite_between (fin s k d) m e n g from to = tt

module _ (f : Format) (s i a c : ℕ) (x : Float) (some : 0 < c) (part : a ≤ c) (ratio : IsRatio x a c) (fits : s ≤ 2 ^ prec f) (next_fits : i + 1 ≤ 2 ^ prec f) where
  -- The rounded sum of index and fraction lies from the index to the next one, since rounding keeps the order.
  abbrev sum : Float
  sum = Ieee.add f (whole f i) x

  sum_rounded : sum ≡ round f false (i * c + a) c
  sum_rounded =
      let index : IsRatio (whole f i) (i * c) c = subst (λ z. IsRatio (whole f i) (i * c) z) {x = 1 * c} {y = c} (omega arith) (larger_terms _ i 1 c (whole_exact f i (omega arith))) in
      sum_is f (whole f i) x (i * c) a c some index ratio

  above_index : whole f i ≤ᶠ sum
  above_index = rw (sum_rounded, conversion f i) (round_mono f i 1 (i * c + a) c (omega arith) some (omega arith))

  below_next : sum ≤ᶠ whole f (i + 1)
  below_next = rw (sum_rounded, conversion f (i + 1)) (round_mono f (i * c + a) c (i + 1) 1 some (omega arith) (omega arith))

  abbrev units : ℕ
  units = grid f (i * c + a) c

  sum_ratio : IsRatio sum units (2 ^ low f)
  sum_ratio =
      let index = whole_exact f i (omega arith) in
      let next = whole_exact f (i + 1) next_fits in
      let bounded = by_both (whole f i) (whole f (i + 1)) i 1 (i + 1) 1 (λ x y. x ≤ᶠ sum → sum ≤ᶠ y → T (finite sum)) (λ m e n g v w. finite_between sum m e n g) index next above_index below_next in
      rw sum_rounded (round_val f (i * c + a) c (round_under f (i * c + a) c (rw sum_rounded at bounded)))

  -- Its product with the spacing is rounded once more.
  product : Ieee.mul f (whole f s) sum ≡ round f false (s * units) (1 * 2 ^ low f)
  product = product_is f (whole f s) sum s 1 units (2 ^ low f) (omega arith) (pow_pos (low f)) (whole_exact f s fits) sum_ratio

  -- And so does the coordinate, from that of the lower voxel
  pub from_lower : Ieee.mul f (whole f s) (whole f i) ≤ᶠ Ieee.mul f (whole f s) sum
  from_lower =
      let index = whole_exact f i (omega arith) in
      let order = ratios_of_le _ _ i 1 units (2 ^ low f) (omega arith) (pow_pos (low f)) index sum_ratio above_index in
      rw (product, product_is f _ _ s 1 i 1 (omega arith) (omega arith) (whole_exact f s fits) index)
      (round_mono f (s * i) (1 * 1) (s * units) (1 * 2 ^ low f) (omega arith) (omega (arith, pow_pos (low f))) (omega (arith, mul-le-mul_left s order)))

  -- to that of the upper.
  pub to_upper : Ieee.mul f (whole f s) sum ≤ᶠ Ieee.mul f (whole f s) (whole f (i + 1))
  to_upper =
      let next = whole_exact f (i + 1) next_fits in
      let order = ratios_of_le _ _ units (2 ^ low f) (i + 1) 1 (pow_pos (low f)) (omega arith) sum_ratio next below_next in
      rw (product, product_is f _ _ s 1 (i + 1) 1 (omega arith) (omega arith) (whole_exact f s fits) next)
      (round_mono f (s * units) (1 * 2 ^ low f) (s * (i + 1)) (1 * 1) (omega (arith, pow_pos (low f))) (omega arith) (omega (arith, mul-le-mul_left s order)))

-- A voxel's coordinate is a whole number of micrometres, small enough to be exact.
pub voxel_coordinate : (s i : ℕ) → s ≤ 10_000 → i < 256 → IsVoxelCoordinate s i (of_voxel s i)
voxel_coordinate s i small few =
    let rounded = product_is format _ _ s 1 i 1 (omega arith) (omega arith) (whole_exact format s (omega arith)) (whole_exact format i (omega arith)) in
    let exact = whole_exact format (s * i) (omega (arith, mul-le s i 10_000 256 small (omega arith))) in
    record { rounded = refl; exact = rw rounded (rw (conversion format (s * i)) at exact) }

-- A corner's coordinate, by its fraction.
pub corner_coordinate : (s i : ℕ) (x : Float) → s ≤ 10_000 → i < 256 → IsProper x → IsCornerCoordinate s i x (of_corner s i x)
corner_coordinate s i x small few inside =
    let r = ratio_of x inside in
    let part = ratios_of_le x float_one _ _ 1 1 r.some (omega arith) r.ratio one_ratio (le_of_lt x float_one inside.below_one) in
    let a = r.upper in
    let c = r.lower in
    record {
      rounded = refl;
      whole_spacing = whole_exact format s (omega arith);
      whole_index = whole_exact format i (omega arith);
      from = from_lower format s i a c x r.some (omega arith) r.ratio (omega arith) (omega arith);
      to = to_upper format s i a c x r.some (omega arith) r.ratio (omega arith) (omega arith);
    }
