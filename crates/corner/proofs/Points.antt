-- A point lies between the ends of its link along every axis. Assumes nothing.
use Rattle.std.proofs.Common.{◌≡◌, ℕ, subst}
use Rattle.std.proofs.lemmas.Float.{le_refl}
use lib.Ieee.{is_nan}
use Rattle.std.specs.Float.{Float, NotNan, nan, inf, fin, ◌≤ᶠ◌}
use Rattle.grid.specs.Links.{next, upper_of}
use Rattle.grid.specs.declared.axis.Axis.{Axis}
use Rattle.grid.specs.declared.link.Link.{Link}
use Rattle.grid.specs.declared.voxel.Voxel.{Voxel}
use Rattle.scan.specs.declared.spacing.Spacing.{Spacing}
use Rattle.corner.specs.Coordinates.{IsVoxelCoordinate}
use Rattle.corner.specs.Points.{axis_of, IsPoint, Spanned, WithinEnds}
use Rattle.corner.specs.Precision.{IsRatio}
use Rattle.corner.specs.declared.corner.Place.{Place}
use Rattle.corner.specs.declared.corner.Place.TheVariants.{X, Y, Z}
use Rattle.corner.specs.declared.point.Point.{Point}

-- A ratio is a number.
number_of_ratio : (x : Float) (n d : ℕ) → IsRatio x n d → NotNan x
unfolding is_nan
number_of_ratio nan n d v = absurd v
number_of_ratio (inf s) n d v = absurd v
number_of_ratio (fin s m e) n d v = tt

-- The coordinate of a voxel is neither below itself nor above.
flat : (s i : ℕ) (x : Float) → IsVoxelCoordinate s i x → Spanned s i i x
flat s i x v =
    let same = le_refl x (number_of_ratio x _ _ v.exact) in
    (subst (λ z. z ≤ᶠ x) v.rounded same, subst (λ z. x ≤ᶠ z) v.rounded same)

along_axis : (s : Spacing) (v : Voxel) (place : Place) (p : Point) → IsPoint s v place p → WithinEnds s v (next (axis_of place) v) p
along_axis s v (X fraction) p h = record { x = (h.0.from, h.0.to); y = flat s.y v.y p.y h.1; z = flat s.z v.z p.z h.2 }
along_axis s v (Y fraction) p h = record { x = flat s.x v.x p.x h.0; y = (h.1.from, h.1.to); z = flat s.z v.z p.z h.2 }
along_axis s v (Z fraction) p h = record { x = flat s.x v.x p.x h.0; y = flat s.y v.y p.y h.1; z = (h.2.from, h.2.to) }

pub between : (s : Spacing) (k : Link) (place : Place) (p : Point) → axis_of place ≡ k.axis → IsPoint s k.lower place p → WithinEnds s k.lower (upper_of k) p
between s k place p same h =
    subst (λ (a : Axis). WithinEnds s k.lower (next a k.lower) p) same (along_axis s k.lower place p h)
