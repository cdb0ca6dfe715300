-- How the readings of an input grow, row by row, as long as there is memory for them. Assumes nothing.
use Rattle.std.specs.Prelude.{◌≡◌, ℕ, List, ◌++◌, Some, None, Option}
use Rattle.std.specs.Option.{option_map}
use Rattle.listing.specs.declared.readings.Readings.{Readings}

-- The readings so far; none once memory lacked.
abbrev pub kept : Readings → Option (List ℕ)
kept r = option_map (λ list. list.items) r.list

-- More come behind them, or memory for them lacks; it lacks for good.
abbrev pub Gains : Option (List ℕ) → Option (List ℕ) → List ℕ → Type 0
Gains None None more = Unit {0}
Gains None (Some ys) more = ⊥
Gains (Some xs) None more = Unit {0}
Gains (Some xs) (Some ys) more = ys ≡ xs ++ more

-- A row that is read comes behind the readings, and no other is taken for one.
abbrev pub RowPut : Option (List ℕ) → Option (Unit {0}) → Option (List ℕ) → Option (List ℕ) → Type 0
RowPut read None before after = read ≡ None
RowPut read (Some done) before after = (row : List ℕ) × (read ≡ Some row) × Gains before after row
