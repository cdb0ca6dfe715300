-- The block of an input. Assumes nothing.
use Rattle.std.proofs.Common.{◌≡◌, ℕ, ◌*◌, Bool, true, false, List, [], ◌∷◌, length, get_or, Err, sym, ap, ◌∙◌, arith, length-append}
use Rattle.std.specs.List.{AllZip, concat}
use Rattle.grid.specs.declared.sides.Sides.{Sides}
use Rattle.grid.specs.declared.voxel.Voxel.{Voxel}
use Rattle.scan.specs.Blocks.{block_means, or_lacking}
use Rattle.scan.specs.Faults.{own_fault}
use Rattle.scan.specs.Meaning.{held, or_outside}
use Rattle.scan.specs.declared.fault.Cause.TheVariants.{NoReading, Outside}
use Rattle.scan.specs.declared.fault.Fault.{Fault}
use Rattle.scan.specs.declared.lengths.Lengths.{Lengths}
use Rattle.listing.specs.Inputs.{Listed, RowLine}
use Rattle.listing.specs.Listings.{sides_of}
use Rattle.listing.specs.Steps.{Fills, OwnFaults}
use Rattle.listing.specs.declared.header.Header.{Header}

own_at : (inside reads : Bool) (value : ℕ) (v : Voxel) (f : Fault) → or_outside inside v (or_lacking reads value v) ≡ Err f → f.at ≡ v
own_at false reads value v f e = let same : own_fault Outside v ≡ f = cc in sym (ap (λ x. x.at) same)
own_at true true value v f e = absurd (cc)
own_at true false value v f e = let same : own_fault NoReading v ≡ f = cc in sym (ap (λ x. x.at) same)

-- The sides of a header are its three lengths.
pub lengths_same : (h : Header) (l : Lengths) → (h.nx ∷ h.ny ∷ h.nz ∷ []) ≡ (l.x ∷ l.y ∷ l.z ∷ []) → sides_of h ≡ l
lengths_same h l e = ap (λ (xs : List ℕ). let lengths : Lengths = record { x = get_or xs 0 0; y = get_or xs 1 0; z = get_or xs 2 0 } in lengths) e

-- A block's faults tell the place that was asked.
pub own_faults : (s : Sides) (values : List ℕ) → OwnFaults (block_means s values)
own_faults s values v f e = own_at (held s v) _ _ v f e

-- Rows of nx readings have nx readings each.
rows_length : (nx : ℕ) (lines rows : List (List ℕ)) → AllZip (RowLine nx) lines rows → length (concat rows) ≡ nx * length rows
rows_length nx [] [] all = omega arith
rows_length nx [] (row ∷ rows) all = absurd all
rows_length nx (line ∷ lines) [] all = absurd all
rows_length nx (line ∷ lines) (row ∷ rows) all =
    omega (arith, length-append row (concat rows), all.0.count, rows_length nx lines rows all.1)

-- An input fills its sides.
pub fills : (bytes : List ℕ) (header : Header) (readings : List ℕ) → Listed bytes header readings → Fills header readings
fills bytes header readings l =
    let h = l.begun.header_line in
    record {
      fit = ((h.writes_nx.low, h.writes_nx.high), (h.writes_ny.low, h.writes_ny.high), (h.writes_nz.low, h.writes_nz.high));
      whole =
          sym (ap length l.all)
          ∙ rows_length header.nx l.begun.lines l.rows l.begun.row_lines
          ∙ ap (λ n. header.nx * n) l.count;
    }
