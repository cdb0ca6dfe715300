-- How a number is written in a line. Assumes nothing.
use Rattle.std.specs.Prelude.{◌≡◌, ℕ, ◌≤◌, List, length}
use Rattle.std.specs.Char.{IsAsciiDigit}
use Rattle.std.specs.List.{AllByRecursion}
use Rattle.tray.specs.Decimal.{value_after}

-- Bytes write a number: they are one to five decimal digits, zeros in front among them, of which it is the value, and it is at most 65,535.
pub record Writes (bs : List ℕ) (n : ℕ) : Type 0 where
  pub some : 1 ≤ length bs
  pub few : length bs ≤ 5
  pub digits : AllByRecursion IsAsciiDigit bs
  pub value : value_after 0 bs ≡ n
  pub small : n ≤ 65535
