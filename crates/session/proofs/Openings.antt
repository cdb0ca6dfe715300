-- Two openings of one scan, the second asked by a way of calling, end alike. Assumes nothing.
use Rattle.std.proofs.Common.{◌≡◌, ℕ, Bool, cond, not, eqb, ◌⊎◌, Ok, Err, Result, sym, refl, ap, ◌∙◌, inl, inr, arith}
use mathlib.Core.Bool.{not-not}
use Rattle.grid.specs.Voxels.{OnBorder}
use Rattle.grid.specs.declared.sides.Sides.{Sides}
use Rattle.grid.specs.declared.voxel.Voxel.{Voxel}
use Rattle.cube.specs.Pairs.{numbers, swap}
use Rattle.cube.specs.declared.pair.Pair.{Pair}
use Rattle.cube.specs.declared.pair.Pair.TheVariants.{S18H6, S26H6, S6H18, S6H26}
use Rattle.scan.specs.Borders.{BorderRead, LowestLacking}
use Rattle.scan.specs.Meaning.{Meaning}
use Rattle.scan.specs.declared.fault.Fault.{Fault}
use Rattle.drawing.specs.Borders.{BorderOf, LowestUnlike}
use Rattle.drawing.specs.Opening.{Thin, Paired, origin, Accepted, Opened}
use Rattle.drawing.specs.Solids.{solids_of}
use Rattle.drawing.specs.declared.asked.Asked.{Asked}
use Rattle.drawing.specs.declared.drawing.Drawing.{Drawing}
use Rattle.drawing.specs.declared.letter.SolidTest.{SolidTest}
use Rattle.drawing.specs.declared.refusal.OpenRefusal.{OpenRefusal}
use Rattle.drawing.specs.declared.refusal.OpenRefusal.TheVariants.{ThinSide, ZeroThreshold, NoPair, Lacking, Mixed}
use Rattle.session.specs.Ways.{Way, again, exchanged}
use Rattle.session.proofs.Levels.{Level, compare}
use Rattle.session.proofs.Lays.{test_by, pair_by, kind_by, solid_by_way}
use Rattle.session.proofs.Likewise.{Likewise}
use Rattle.session.proofs.Lowest.{no_fault, one_lowest, one_lacking}

-- What is asked of an opening by a way: the numbers of the pair stay, or change places.
abbrev number_by : Way → ℕ → ℕ → ℕ
number_by again s h = s
number_by exchanged s h = h

abbrev pub asked_of : Way → Asked → Asked
asked_of way a = record { test = test_by way a.test; s = number_by way a.s a.h; h = number_by way a.h a.s }

-- The threshold stays.
same_threshold : (way : Way) (t : SolidTest) → (test_by way t).threshold ≡ t.threshold
same_threshold again t = refl
same_threshold exchanged t = refl

-- A pair swapped has the two numbers exchanged.
swapped : (p : Pair) → numbers (swap p) ≡ ((numbers p).1, (numbers p).0)
swapped S18H6 = refl
swapped S26H6 = refl
swapped S6H18 = refl
swapped S6H26 = refl

-- The numbers of a pair, by a way, are those of the pair by that way, and back.
paired_by : (way : Way) (s h : ℕ) (p : Pair) → numbers p ≡ (s, h) → numbers (pair_by way p) ≡ (number_by way s h, number_by way h s)
paired_by again s h p e = e
paired_by exchanged s h p e = swapped p ∙ ap (λ (n : ℕ × ℕ). (n.1, n.0)) e

paired_back : (way : Way) (s h : ℕ) (p : Pair) → numbers p ≡ (number_by way s h, number_by way h s) → numbers (pair_by way p) ≡ (s, h)
paired_back again s h p e = e
paired_back exchanged s h p e = swapped p ∙ ap (λ (n : ℕ × ℕ). (n.1, n.0)) e

-- A pair is known by its two numbers.
pair_of : ℕ × ℕ → Pair
pair_of n = cond (eqb n.0 18) S18H6 (cond (eqb n.0 26) S26H6 (cond (eqb n.1 18) S6H18 S6H26))

pair_back : (p : Pair) → pair_of (numbers p) ≡ p
unfolding pair_of
pair_back S18H6 = refl
pair_back S26H6 = refl
pair_back S6H18 = refl
pair_back S6H26 = refl

same_pair : (p q : Pair) → numbers p ≡ numbers q → p ≡ q
same_pair p q e = sym (pair_back p) ∙ ap pair_of e ∙ pair_back q

-- Kinds are the same just where they are by a way.
kind_back : (way : Way) (a b : Bool) → kind_by way a ≡ kind_by way b → a ≡ b
kind_back again a b e = e
kind_back exchanged a b e = sym (not-not a) ∙ ap not e ∙ not-not b

-- The voxel with number 0 is on the border.
origin_on_border : (s : Sides) → OnBorder s origin
origin_on_border s = ((s.fits.0.0, s.fits.1.0, s.fits.2.0), inl refl)

-- Where the border can be read, a voxel on it is like voxel 0 just where it is by a way.
module _ (way : Way) (m : Meaning) (t : SolidTest) (read : BorderRead m) (v : Voxel) (on : OnBorder m.sides v) where
  by_way : (w : Voxel) → OnBorder m.sides w → solids_of (test_by way t) m w ≡ kind_by way (solids_of t m w)
  by_way w border = solid_by_way way t m w (read w border)

  like_to : solids_of t m v ≡ solids_of t m origin → solids_of (test_by way t) m v ≡ solids_of (test_by way t) m origin
  like_to e = by_way v on ∙ ap (kind_by way) e ∙ sym (by_way origin (origin_on_border m.sides))

  like_back : solids_of (test_by way t) m v ≡ solids_of (test_by way t) m origin → solids_of t m v ≡ solids_of t m origin
  like_back e =
      kind_back way (solids_of t m v) (solids_of t m origin)
      (sym (by_way v on) ∙ e ∙ by_way origin (origin_on_border m.sides))

-- The kind of voxel 0, which that of the border is compared with.
abbrev OneKind : Meaning → SolidTest → Type 0
OneKind m t = BorderOf t m (solids_of t m origin)

abbrev LowestOther : Meaning → SolidTest → Voxel → Type 0
LowestOther m t v = LowestUnlike t m (solids_of t m origin) v

-- The law of an opening, as what is asked one after the other.
abbrev BorderAsked : Meaning → Asked → Result Drawing OpenRefusal → Type 0
BorderAsked m a r =
    Level (BorderRead m)
    (Level (OneKind m a.test) ((d : Drawing) × (r ≡ Ok d) × Accepted m a d)
    ((v : Voxel) × (r ≡ Err (Mixed v)) × LowestOther m a.test v))
    ((v : Voxel) × (f : Fault) × (r ≡ Err (Lacking v f)) × LowestLacking m v f)

abbrev InOrder : Meaning → Asked → Result Drawing OpenRefusal → Type 0
InOrder m a r =
    Level (Thin m.sides) (r ≡ Err ThinSide)
    (Level (a.test.threshold ≡ 0) (r ≡ Err ZeroThreshold)
    (Level (Paired a.s a.h) (BorderAsked m a r) (r ≡ Err NoPair)))

-- Every opening went that way.
in_order : (m : Meaning) (a : Asked) (r : Result Drawing OpenRefusal) → Opened m a r → InOrder m a r
in_order m a (Ok d) o =
    inr (o.thick, inr (o.above, inl ((d.pair, o.pair), inl (o.readable, inl (o.one_kind, (d, refl, o))))))
in_order m a (Err ThinSide) o = inl (o, refl)
in_order m a (Err ZeroThreshold) o = inr (o.0, inl (o.1, refl))
in_order m a (Err NoPair) o = inr (o.0, inr (o.1, inr (o.2, refl)))
in_order m a (Err (Lacking v f)) o =
    inr (o.0, inr (o.1, inl (o.2, inr ((λ read. no_fault (m.at v) f (read v o.3.border) o.3.lacks), (v, f, refl, o.3)))))
in_order m a (Err (Mixed v)) o =
    inr (o.0, inr (o.1, inl (o.2, inl (o.3, inr ((λ like. o.4.unlike (like v o.4.border)), (v, refl, o.4))))))

-- Both are refused alike, or both are opened, and the drawings stand alike.
abbrev pub OpensAlike : Way → Meaning → Result Drawing OpenRefusal → Result Drawing OpenRefusal → Type 0
OpensAlike way m r r' =
    ((e : OpenRefusal) × (r ≡ Err e) × (r' ≡ Err e))
    ⊎ ((d : Drawing) × (d' : Drawing) × (r ≡ Ok d) × (r' ≡ Ok d') × Likewise way m d d')

module _ (way : Way) (m : Meaning) (a : Asked) (r r' : Result Drawing OpenRefusal) where
  -- Refused for one reason, they are refused alike.
  refused_alike : (e : OpenRefusal) → r ≡ Err e → r' ≡ Err e → OpensAlike way m r r'
  refused_alike e p q = inl (e, p, q)

  -- Accepted both, the drawings stand alike.
  accepted_alike : (d d' : Drawing) → Accepted m a d → Accepted m (asked_of way a) d' → Likewise way m d d'
  accepted_alike d d' o o' =
      record {
        of_scan = o.sides;
        sides = o'.sides ∙ sym o.sides;
        test = o'.test ∙ sym (ap (test_by way) o.test);
        pair = same_pair d'.pair (pair_by way d.pair) (o'.pair ∙ sym (paired_by way a.s a.h d.pair o.pair));
        cubes = o'.cubes ∙ sym o.cubes;
        triangles = o'.triangles ∙ sym o.triangles;
        read = λ n below. let none = o.cubes in absurd (omega arith);
      }

  -- What the border has against it, or nothing, is the same by both.
  border_alike : BorderAsked m a r → BorderAsked m (asked_of way a) r' → OpensAlike way m r r'
  border_alike =
      compare (λ read. read) (λ read. read)
      (λ read. compare
      (λ like v on. like_to way m a.test read v on (like v on))
      (λ like v on. like_back way m a.test read v on (like v on))
      (λ like o o'. inr (o.0, o'.0, o.1, o'.1, accepted_alike o.0 o'.0 o.2 o'.2))
      (λ u u'. refused_alike (Mixed u.0) u.1 (u'.1 ∙ ap (λ v. Err (Mixed v)) (one_unlike read u.0 u'.0 u.2 u'.2))))
      (λ l l'. let one = one_lacking m l.0 l'.0 l.1 l'.1 l.3 l'.3 in
      refused_alike (Lacking l.0 l.1) l.2 (l'.2 ∙ (λ i. Err (Lacking (one.0 i) (one.1 i)))))
    where
      one_unlike : BorderRead m → (v w : Voxel) → LowestOther m a.test v → LowestOther m (test_by way a.test) w → w ≡ v
      one_unlike read v w u u' =
          one_lowest m.sides v w u.border u'.border
          (λ below. u.unlike (like_back way m a.test read v u.border (u'.before v u.border below)))
          (λ below. u'.unlike (like_to way m a.test read w u'.border (u.before w u'.border below)))

  -- So is what comes before.
  order_alike : InOrder m a r → InOrder m (asked_of way a) r' → OpensAlike way m r r'
  order_alike =
      compare (λ thin. thin) (λ thin. thin) (λ thin. refused_alike ThinSide)
      (compare (λ none. same_threshold way a.test ∙ none) (λ none. sym (same_threshold way a.test) ∙ none)
      (λ none. refused_alike ZeroThreshold)
      (compare
      (λ pair. (pair_by way pair.0, paired_by way a.s a.h pair.0 pair.1))
      (λ pair. (pair_by way pair.0, paired_back way a.s a.h pair.0 pair.1))
      (λ pair. border_alike)
      (refused_alike NoPair)))

  pub opens_alike : Opened m a r → Opened m (asked_of way a) r' → OpensAlike way m r r'
  opens_alike o o' = order_alike (in_order m a r o) (in_order m (asked_of way a) r' o')
