-- Readings that make a block, and what stands against opening it whatever they are. Assumes nothing.
use Rattle.std.proofs.Common.{◌≡◌, ◌≢◌, ℕ, ◌<◌, ◌≤◌, ◌-◌, ◌*◌, inl, inr, List, length, Err, slice_index, sym, ap, ◌∙◌, subst, arith}
use Rattle.std.specs.Prelude.{nat_lt}
use Rattle.std.proofs.Math.Nat.{le-mul_of_pos_right}
use Rattle.std.proofs.lemmas.Bool.{lt-ltb}
use Rattle.grid.specs.Numbers.{Side, place_count}
use Rattle.grid.specs.Cubes.{cube_count}
use Rattle.grid.specs.Voxels.{count_of, number_of}
use Rattle.grid.specs.declared.sides.Sides.{Sides}
use Rattle.scan.specs.Blocks.{ShowsValues, block_means, listed, or_lacking}
use Rattle.scan.specs.Laws.Places.{scan_inside, scan_outside}
use Rattle.scan.specs.Making.{SidesAre}
use Rattle.scan.specs.declared.lengths.Lengths.{Lengths}
use Rattle.drawing.specs.Opening as opening
use Rattle.drawing.specs.Opening.{GivesPair, Thin}
use Rattle.drawing.specs.declared.asked.Asked.{Asked}
use Rattle.drawing.specs.declared.refusal.OpenRefusal.{OpenRefusal}
use Rattle.drawing.specs.declared.refusal.OpenRefusal.TheVariants.{ThinSide, ZeroThreshold, NoPair, Lacking, Mixed}
use Rattle.exported.specs.Askings.{MakesBlock, OpenRefused, Refused, WellAsked, asked_of, sides_of}
use Rattle.exported.specs.Drawings.{DrawRefused}
use Rattle.exported.specs.declared.refusal.Refusal.{Refusal}
use Rattle.exported.specs.declared.refusal.Refusal.TheVariants.{Scan, Open, Draw, Memory}
use Rattle.exported.specs.declared.asking.Asking.{Asking}

-- A block of as many readings as voxels shows them.
shows_block : (s : Sides) (l : Lengths) (values : List ℕ) → SidesAre s l → length values ≡ count_of s → ShowsValues (block_means s values) l values
shows_block s l values are whole =
    record {
      size = are;
      whole = whole;
      reads = λ v h lt. scan_inside s (listed s values) v h ∙ ap (λ b. or_lacking b (slice_index values (number_of s v)) v) (lt-ltb (slice_index values (number_of s v)) 65535 lt);
      lacks = λ v h e. scan_inside s (listed s values) v h ∙ ap (λ b. or_lacking b (slice_index values (number_of s v)) v) (ap (λ n. nat_lt n 65535) e);
      beyond = scan_outside s (listed s values);
    }

-- Readings as many as the voxels make a block.
pub makes_block : (s : Sides) (a : Asking) (values : List ℕ) → SidesAre s (sides_of a) → length values ≡ count_of s → MakesBlock a values
makes_block s a values are whole = (
  (fits s.x a.x are.0 s.fits.0, fits s.y a.y are.1 s.fits.1, fits s.z a.z are.2 s.fits.2),
  whole ∙ ap (λ x. place_count x s.y s.z) are.0 ∙ ap (λ y. place_count a.x y s.z) are.1 ∙ ap (place_count a.x a.y) are.2,
)
  where
    fits : (n m : ℕ) → n ≡ m → Side n → Side m
    fits n m e h = subst Side e h

-- What is refused of the sides alone is refused of the block.
refused_block : (s : Sides) (values : List ℕ) (asked : Asked) (e : OpenRefusal) → GivesPair s asked (Err e) → opening.Refused (block_means s values) asked e
refused_block s values asked ThinSide h = h
refused_block s values asked ZeroThreshold h = h
refused_block s values asked NoPair h = h
refused_block s values asked (Lacking v f) h = absurd h
refused_block s values asked (Mixed v) h = absurd h

pub pair_refused : (a : Asking) (values : List ℕ) (s : Sides) (e : OpenRefusal) → SidesAre s (sides_of a) → length values ≡ count_of s
    → GivesPair s (asked_of a) (Err e) → OpenRefused a values e
pair_refused a values s e are whole given =
    record { scan = block_means s values; shows = shows_block s (sides_of a) values are whole; refused = refused_block s values (asked_of a) e given }

-- And it is not well asked.
pub not_asked : (a : Asking) (values : List ℕ) (s : Sides) (e : OpenRefusal) → SidesAre s (sides_of a) → GivesPair s (asked_of a) (Err e) → WellAsked a values → ⊥
not_asked a values s ThinSide are thin w = w.given.0 (same thin)
  where
    same : Thin s → Thin w.sides
    same (inl x) = inl (w.are.0 ∙ sym are.0 ∙ x)
    same (inr (inl y)) = inr (inl (w.are.1 ∙ sym are.1 ∙ y))
    same (inr (inr z)) = inr (inr (w.are.2 ∙ sym are.2 ∙ z))
not_asked a values s ZeroThreshold are h w = w.given.1 h.1
not_asked a values s NoPair are h w = h.2 (w.pair, w.given.2)
not_asked a values s (Lacking v f) are h w = h
not_asked a values s (Mixed v) are h w = h

-- What is refused with no memory is refused over any budget.
pub over_any_budget : (a : Asking) (values : List ℕ) (e : Refusal) → Refused a values e × (WellAsked a values → ⊥) → DrawRefused a values e
over_any_budget a values (Scan e) h = h.0
over_any_budget a values (Open e) h = (h.0, λ w. absurd (h.1 w))
over_any_budget a values (Draw e) h = absurd h.0
over_any_budget a values Memory h = absurd (h.1 h.0)

-- What is refused of what is well asked is refused where the budget is not 0.
pub over_this_budget : (a : Asking) (values : List ℕ) (e : Refusal) → a.budget ≢ 0 → Refused a values e → DrawRefused a values e
over_this_budget a values (Scan e) some h = h
over_this_budget a values (Open e) some h = (h, λ w. some)
over_this_budget a values (Draw e) some h = absurd h
over_this_budget a values Memory some h = (h, some)

-- No side is 1, so there is a cube.
pub some_cube : (s : Sides) → (Thin s → ⊥) → 0 < cube_count s
some_cube s thick =
    let x : 0 < s.x - 1 = more s.x s.fits.0.0 (λ e. thick (inl e)) in
    let y : 0 < s.y - 1 = more s.y s.fits.1.0 (λ e. thick (inr (inl e))) in
    let z : 0 < s.z - 1 = more s.z s.fits.2.0 (λ e. thick (inr (inr e))) in
    omega (arith, x, y, le-mul_of_pos_right (s.y - 1) z, le-mul_of_pos_right (s.x - 1) (yz (s.y - 1) (s.z - 1) y z))
  where
    more : (n : ℕ) → 1 ≤ n → n ≢ 1 → 0 < n - 1
    more n h ne = omega (arith, h, ne)

    yz : (m n : ℕ) → 0 < m → 0 < n → 0 < m * n
    yz m n h k = omega (arith, h, le-mul_of_pos_right m k)
