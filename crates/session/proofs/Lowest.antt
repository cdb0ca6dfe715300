-- There is one lowest voxel of a kind, and one first fault of a cube. Assumes nothing.
use Rattle.std.proofs.Common.{◌≡◌, ℕ, ◌<◌, true, is_ok, Err, sym, refl, ap, ◌∙◌, arith}
use Rattle.grid.specs.Voxels.{OnBorder, number_of}
use Rattle.grid.specs.declared.sides.Sides.{Sides}
use Rattle.grid.specs.declared.voxel.Voxel.{Voxel}
use Rattle.grid.proofs.Numbered.{voxel_numbered}
use Rattle.scan.specs.Borders.{LowestLacking}
use Rattle.scan.specs.Meaning.{Answer, Meaning}
use Rattle.scan.specs.declared.fault.Fault.{Fault}
use Rattle.surface.specs.Places.{voxel_at}
use Rattle.drawing.specs.Laying.{FirstFault}

-- An answer is not a fault where it is a reading.
pub no_fault : (a : Answer) (f : Fault) → is_ok a ≡ true → a ≡ Err f → ⊥
no_fault a f ok e = let z : ◌≡◌ {A = ℕ} 0 1 = cc in omega arith

-- Two numbers of which neither is below the other are one.
neither_below : (i j : ℕ) → (i < j → ⊥) → (j < i → ⊥) → i ≡ j
neither_below i j a b = omega arith

-- Two voxels on the border of which neither has the lower number are one.
pub one_lowest : (s : Sides) (v w : Voxel) → OnBorder s v → OnBorder s w
    → (number_of s v < number_of s w → ⊥) → (number_of s w < number_of s v → ⊥) → w ≡ v
one_lowest s v w on on' low low' =
    (voxel_numbered s v (number_of s v) on.0 refl).only w on'.0 (sym (neither_below (number_of s v) (number_of s w) low low'))

-- The lowest voxel on the border that lacks a reading is one, and so is its fault.
pub one_lacking : (m : Meaning) (v w : Voxel) (f g : Fault) → LowestLacking m v f → LowestLacking m w g → (w ≡ v) × (g ≡ f)
one_lacking m v w f g a b =
    let same = one_lowest m.sides v w a.border b.border
    (λ below. no_fault (m.at v) f (b.before v a.border below) a.lacks)
    (λ below. no_fault (m.at w) g (a.before w b.border below) b.lacks) in
    let here : m.at v ≡ Err g = sym (ap m.at same) ∙ b.lacks in
    let there = a.lacks in
    (same, cc)

-- The fault of the first voxel of a cube that lacks a reading is one.
pub one_fault : (m : Meaning) (low : Voxel) (f g : Fault) → FirstFault m low f → FirstFault m low g → g ≡ f
one_fault m low f g (v, a) (w, b) =
    let here : m.at (voxel_at low a.index) ≡ Err f = ap m.at (sym a.place) ∙ a.lacks in
    let there : m.at (voxel_at low b.index) ≡ Err g = ap m.at (sym b.place) ∙ b.lacks in
    let same = neither_below a.index b.index
    (λ below. no_fault (m.at (voxel_at low a.index)) f (b.before a.index below) here)
    (λ below. no_fault (m.at (voxel_at low b.index)) g (a.before b.index below) there) in
    let at : m.at (voxel_at low a.index) ≡ Err g = ap (λ j. m.at (voxel_at low j)) same ∙ there in
    cc
