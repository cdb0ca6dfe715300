use Rattle.std.proofs.Common.{◌≡◌, ◌+◌, ◌-◌, ℕ, List, [], Some}
use Rattle.listing.specs.Cutting.{unread}
use Rattle.listing.specs.Lines.{behind_all, rows_of}
use Rattle.listing.specs.Rows.{Gains, kept}
use Rattle.listing.proofs.rows.read_rows.Given as goal

-- The lines that are left are cut at line feeds; the readings so far and those of the rows that are left are those of all.
abbrev pub invariant-loop-row : goal.invariant-loop-row
invariant-loop-row l =
    (l.lines.mark ≡ 10) × (front : List ℕ) × Gains (Some []) (kept l.readings) front
    × (behind_all front (rows_of (l.rows - l.row) l.header.nx (l.row + 2) (unread l.lines)) ≡ rows_of l.rows l.header.nx 2 (unread l.fn.lines))
