-- Which voxel of a border comes next by number. Assumes nothing.
use Rattle.std.proofs.Common.{◌≡◌, ℕ, ◌+◌, ◌-◌, ◌*◌, ◌<◌, ◌≤◌, ◌⊎◌, inl, inr, refl, sym, ap, ◌∙◌, arith, ⊎_elim, Bool, true, false, MatchBool, Option, Some, None, MatchOption, subst, eq-or-lt_of_le}
use Rattle.std.proofs.lemmas.Bool.{cases_lt, false≢true}
use Rattle.grid.specs.Borders.{LastOnBorder, NextOnBorder, NoneOnBorder}
use Rattle.grid.specs.Numbers.{voxel_number}
use Rattle.grid.specs.Voxels.{OnBorder, number_of}
use Rattle.grid.specs.declared.sides.Sides.{Sides}
use Rattle.grid.specs.declared.voxel.Voxel.{Voxel}
use Rattle.grid.proofs.Numbering.{place_same}
use Rattle.grid.proofs.Numbered.{voxel_numbered}

-- a coordinate that is neither the first nor the last
abbrev Inner : ℕ → ℕ → Type 0
Inner at side = ((at ≡ 0) ⊎ (at + 1 ≡ side)) → ⊥

module _ (s : Sides) (v : Voxel) (border : OnBorder s v) where
  -- the first voxel of a row that only has its ends on the border
  first_of : Inner v.y s.y → Inner v.z s.z → v.x + 1 < s.x → v.x ≡ 0
  first_of iy iz l = pick border.1
    where
      pick : ((v.x ≡ 0) ⊎ (v.x + 1 ≡ s.x) ⊎ (v.y ≡ 0) ⊎ (v.y + 1 ≡ s.y) ⊎ (v.z ≡ 0) ⊎ (v.z + 1 ≡ s.z)) → v.x ≡ 0
      pick (inl e) = e
      pick (inr (inl e)) = absurd (omega (arith, e, l))
      pick (inr (inr (inl e))) = absurd (iy (inl e))
      pick (inr (inr (inr (inl e)))) = absurd (iy (inr e))
      pick (inr (inr (inr (inr (inl e))))) = absurd (iz (inl e))
      pick (inr (inr (inr (inr (inr e))))) = absurd (iz (inr e))

  -- of such a row the last voxel comes next
  pub row_passed : Inner v.y s.y → Inner v.z s.z → v.x + 1 < s.x → (next : Voxel) → next.x ≡ s.x - 1 → next.y ≡ v.y → next.z ≡ v.z
      → NextOnBorder s v next
  row_passed iy iz l next ex ey ez =
      let low = first_of iy iz l in
      let row : ℕ = s.x * (v.y + s.y * v.z) in
      let same : s.x * (next.y + s.y * next.z) ≡ row = ap (λ b. s.x * (b + s.y * next.z)) ey ∙ ap (λ c. s.x * (v.y + s.y * c)) ez in
      record {
        border = ((omega (arith, ex, l), omega (arith, ey, border.0.1), omega (arith, ez, border.0.2)), inr (inl (omega (arith, ex, l))));
        after = omega (arith, ex, l, low, same);
        between = λ w on below. ⊎_elim (λ past. absurd (skipped w on past (omega (arith, below, same, ex, l)))) (λ le. le) (cases_lt (number_of s v) (number_of s w));
      }
    where
      off : (w : Voxel) → OnBorder s w → 0 < w.x → w.x + 1 < s.x → w.y ≡ v.y → w.z ≡ v.z → ⊥
      off w on lo hi ey ez = pick on.1
        where
          pick : ((w.x ≡ 0) ⊎ (w.x + 1 ≡ s.x) ⊎ (w.y ≡ 0) ⊎ (w.y + 1 ≡ s.y) ⊎ (w.z ≡ 0) ⊎ (w.z + 1 ≡ s.z)) → ⊥
          pick (inl e) = omega (arith, e, lo)
          pick (inr (inl e)) = omega (arith, e, hi)
          pick (inr (inr (inl e))) = iy (inl (sym ey ∙ e))
          pick (inr (inr (inr (inl e)))) = iy (inr (omega (arith, ey, e)))
          pick (inr (inr (inr (inr (inl e))))) = iz (inl (sym ez ∙ e))
          pick (inr (inr (inr (inr (inr e))))) = iz (inr (omega (arith, ez, e)))

      skipped : (w : Voxel) → OnBorder s w → number_of s v < number_of s w → number_of s w < s.x - 1 + s.x * (v.y + s.y * v.z) → ⊥
      skipped w on past below =
          let low = first_of iy iz l in
          let k : ℕ = number_of s w - s.x * (v.y + s.y * v.z) in
          let is : number_of s w ≡ voxel_number s.x s.y k v.y v.z = omega (arith, past, low) in
          let small : k + 1 < s.x = omega (arith, below, past, low, l) in
          let same = place_same s.x s.y s.z w.x w.y w.z k v.y v.z on.0 (omega (arith, small), border.0.1, border.0.2) is in
          let some : 0 < k = omega (arith, past, low) in
          off w on (omega (arith, same.0, some)) (omega (arith, same.0, small)) same.1 same.2

  -- after the last voxel of a layer comes the first of the next
  pub layer_passed : s.x ≤ v.x + 1 → s.y ≤ v.y + 1 → v.z + 1 < s.z → (next : Voxel) → next.x ≡ 0 → next.y ≡ 0 → next.z ≡ v.z + 1
      → NextOnBorder s v next
  layer_passed lx ly lz next ex ey ez =
      let x : s.x ≡ v.x + 1 = omega (arith, lx, border.0.0) in
      let y : s.y ≡ v.y + 1 = omega (arith, ly, border.0.1) in
      let number : number_of s next ≡ number_of s v + 1 = number_next x y in
      record {
        border = ((omega (arith, ex, x), omega (arith, ey, y), omega (arith, ez, lz)), inl ex);
        after = omega (arith, number);
        between = λ w on below. omega (arith, below, number);
      }
    where
      number_next : s.x ≡ v.x + 1 → s.y ≡ v.y + 1 → number_of s next ≡ number_of s v + 1
      number_next x y = layer_number s.x s.y v.x v.y v.z next.x next.y next.z x y ex ey ez
        where
          layer_number : (nx ny x y z x' y' z' : ℕ) → nx ≡ x + 1 → ny ≡ y + 1 → x' ≡ 0 → y' ≡ 0 → z' ≡ z + 1 → voxel_number nx ny x' y' z' ≡ voxel_number nx ny x y z + 1
          layer_number nx ny x y z x' y' z' hx hy e0 e1 e2 = rw (hx, hy, e0, e1, e2) (omega arith)

-- where no coordinate is the first or the last
pub not_so : (b : Bool) (P Q : Type 0) → MatchBool b P Q → b ≡ false → Q
not_so true P Q h e = absurd (false≢true (sym e))
not_so false P Q h e = h

-- no answer so far, and none at this voxel: none before the next, or none at all
pub none_yet : {T : Type 0} (answers : Voxel → Option T → Type 0) (s : Sides) (v : Voxel) (o : Option Voxel) → MatchOption o (LastOnBorder s v) (NextOnBorder s v)
    → OnBorder s v × ((w : Voxel) → OnBorder s w → number_of s w < number_of s v → answers w None) → answers v None
    → MatchOption o (NoneOnBorder s answers) (λ n. OnBorder s n × ((w : Voxel) → OnBorder s w → number_of s w < number_of s n → answers w None))
none_yet answers s v o next before here = by o next
  where
    upto : (w : Voxel) → OnBorder s w → number_of s w ≤ number_of s v → answers w None
    upto w on le =
        ⊎_elim (λ e. subst (λ (u : Voxel). answers u None) (sym ((voxel_numbered s v (number_of s v) before.0.0 refl).only w on.0 e)) here) (λ less. before.1 w on less)
        (eq-or-lt_of_le le)

    by : (o : Option Voxel) → MatchOption o (LastOnBorder s v) (NextOnBorder s v)
        → MatchOption o (NoneOnBorder s answers) (λ n. OnBorder s n × ((w : Voxel) → OnBorder s w → number_of s w < number_of s n → answers w None))
    by None last = λ w on. upto w on (last w on)
    by (Some n) next = (next.border, λ w on less. upto w on (next.between w on less))
