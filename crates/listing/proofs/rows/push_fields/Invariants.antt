use Rattle.std.proofs.Common.{◌≡◌, ◌-◌, ℕ, List}
use Rattle.listing.specs.Cutting.{left, pieces}
use Rattle.listing.specs.Fields.{row_of}
use Rattle.listing.specs.Lines.{behind}
use Rattle.listing.specs.Rows.{Gains, kept}
use Rattle.listing.proofs.rows.push_fields.Given as goal

-- What came behind the readings so far, and the readings of the fields that are left, are those of all fields.
abbrev pub invariant-loop : goal.invariant-loop
invariant-loop l =
    (row : List ℕ) × Gains (kept l.fn.readings) (kept l.readings) row × (behind row (row_of (l.nx - l.counter) (left l.fields)) ≡ row_of l.nx (pieces 44 l.rest))
