-- The tube of a mask from the two triangles that its row has. Assumes nothing.
use Rattle.std.proofs.Common.{◌≡◌, ℕ, ◌≤◌, Bool, true, false, T, leb, List, length, get_or, take, sym, refl, ap, ◌∙◌, subst, ap₂, arith, leb→le, length-take, get_or-take, ◌&&◌}
use Rattle.cube.specs.Cube.{Kinds}
use Rattle.cube.specs.Triangles.{cut_all, opposite, tube, with_tube}
use Rattle.cube.specs.Loops.{loops}
use Rattle.cube.specs.Tubes.{tube_between}
use Rattle.cube.specs.Rows.{same_triangles, none}
use Rattle.cube.specs.declared.pair.Connectedness.TheVariants.{Eighteen, TwentySix}
use Rattle.cube.specs.declared.triangle.CubeTriangle.{CubeTriangle}
use Rattle.cube.proofs.Listed.{when, and_left, and_right}
use Rattle.cube.proofs.Everywhere.{everywhere}
use Rattle.cube.proofs.Masks.{same_lists}

-- Where two voxels are opposite, the row has two triangles, and the tube is the one between them.
abbrev tubed : Kinds → Bool
tubed k =
    let row = cut_all Eighteen k in
    elim (opposite k) [
      | true ↦ leb 2 (length row) && same_triangles (tube_between (get_or row 0 none) (get_or row 1 none)) (with_tube k)
      | false ↦ true
    ]

module _ (k : Kinds) (h : T (opposite k)) where
  abbrev row : List CubeTriangle
  row = cut_all Eighteen k

  abbrev right : Bool
  right = same_triangles (tube_between (get_or row 0 none) (get_or row 1 none)) (with_tube k)

  known : T (leb 2 (length row) && right)
  unfolding cut_all with_tube
  known = when (opposite k) (leb 2 (length row) && right) (everywhere tubed tt k) h

  -- The same from a patch that lays the row.
  pub tube_of : (n : ℕ) (places : List CubeTriangle) → take n places ≡ row → tube_between (get_or places 0 none) (get_or places 1 none) ≡ with_tube k
  tube_of n places e =
      let two : 2 ≤ length row = leb→le 2 (length row) (and_left (leb 2 (length row)) right known) in
      let short : length row ≤ n = subst (λ xs. length xs ≤ n) e (simp length-take (omega arith)) in
      let a : get_or places 0 none ≡ get_or row 0 none = sym (get_or-take n places 0 none (omega arith)) ∙ ap (λ xs. get_or xs 0 none) e in
      let b : get_or places 1 none ≡ get_or row 1 none = sym (get_or-take n places 1 none (omega arith)) ∙ ap (λ xs. get_or xs 1 none) e in
      ap₂ tube_between a b ∙ same_lists (tube_between (get_or row 0 none) (get_or row 1 none)) (with_tube k) (and_right (leb 2 (length row)) right known)

-- The loops of a cube are cut alike where solid is 18- and 26-connected.
same_cut : (k : Kinds) → cut_all Eighteen k ≡ cut_all TwentySix k
unfolding cut_all
same_cut k = refl

-- Elsewhere the row is laid as it is.
pub no_tube : (k : Kinds) → opposite k ≡ false → cut_all Eighteen k ≡ with_tube k
unfolding with_tube
no_tube k h = same_cut k ∙ sym (ap (λ b. elim b [ true ↦ tube (loops TwentySix k) | false ↦ cut_all TwentySix k ]) h)
