-- Blocks, phantoms and cut-outs keep what every scan owes. Assumes nothing.
use Rattle.std.specs.Prelude.{◌≡◌, ℕ, true, List, Ok, Err, nat_lt, slice_index, refl}
use Rattle.std.proofs.Common.{sym, subst, inl, inr, arith}
use Rattle.std.proofs.lemmas.Bool.{ltb-true, cases_Bool}
use Rattle.grid.specs.Voxels.{number_of}
use Rattle.grid.specs.declared.sides.Sides.{Sides}
use Rattle.grid.specs.declared.voxel.Voxel.{Voxel}
use Rattle.scan.specs.Meaning.{Answer, Meaning, Voxelwise, Lawful}
use Rattle.scan.specs.Blocks.{block_means, or_lacking}
use Rattle.scan.specs.Phantoms.{phantom_means, shapes_fit}
use Rattle.scan.specs.Cuts.{cut_means, cut_sides, cut_low, shifted, raised}
use Rattle.scan.specs.declared.lengths.Lengths.{Lengths}
use Rattle.scan.specs.declared.shape.Shape.{Shape}
use Rattle.scan.specs.Laws.Places.{scan_lawful}
use Rattle.scan.specs.Laws.Painting.{reads_bound}
use Rattle.scan.specs.Laws.Clipping.{cut_inside}

-- a listed value is a reading or stands for none
value_voxelwise : (value : ℕ) (v : Voxel) → Voxelwise (or_lacking (nat_lt value 65535) value v)
value_voxelwise value v =
    elim (cases_Bool (nat_lt value 65535)) [
      | inl e ↦ subst (λ b. Voxelwise (or_lacking b value v)) (sym e) (let h = ltb-true value 65535 e in omega arith)
      | inr e ↦ subst (λ b. Voxelwise (or_lacking b value v)) (sym e) refl
    ]

pub block_lawful : (s : Sides) (values : List ℕ) → Lawful (block_means s values)
block_lawful s values = scan_lawful s _ (λ v h. value_voxelwise (slice_index values (number_of s v)) v)

pub phantom_lawful : (s : Sides) (shapes : List Shape) → shapes_fit shapes ≡ true → Lawful (phantom_means s shapes)
phantom_lawful s shapes fit = scan_lawful s _ (λ v h. reads_bound shapes v fit)

-- a fault that comes up keeps its cause
raised_voxelwise : (a : Answer) → Voxelwise a → Voxelwise (raised a)
raised_voxelwise (Ok reading) h = h
raised_voxelwise (Err f) h = h

pub cut_lawful : (m : Meaning) (low : Voxel) (lengths : Lengths) → Lawful m → Lawful (cut_means m low lengths)
cut_lawful m low lengths law =
    scan_lawful (cut_sides m.sides low lengths) _
    (λ v h. raised_voxelwise (m.at (shifted (cut_low m.sides low) v)) (law.inside _ (cut_inside m.sides low lengths v h)))
