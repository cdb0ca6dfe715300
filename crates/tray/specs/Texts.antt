-- The text of a list of triangles: their lines, one after the other. Assumes nothing.
use Rattle.std.specs.Prelude.{◌≡◌, ℕ, zero, suc, ◌+◌, ◌*◌, ◌/◌, ◌<◌, ◌≤◌, List, [], ◌++◌, length, take, drop, Some, None, Option, ◌≢◌}
use Rattle.std.proofs.Common.{arith, length-append}
use Rattle.std.specs.Option.{option_to_list}
use Rattle.std.specs.List.{flat_map}
use Rattle.tray.specs.declared.triangle.Triangle.{Triangle}
use Rattle.tray.specs.Lines.{line_of, spelled}

-- The lines of the triangles, in order, and nothing else.
abbrev pub text_of : List Triangle → List ℕ
text_of ts = flat_map line_of ts

-- The triangles that the first n lines of 27 bytes spell.
abbrev pub spelled_by : ℕ → List ℕ → List Triangle
spelled_by zero bs = []
spelled_by (suc n) bs = option_to_list (spelled (take 27 bs)) ++ spelled_by n (drop 27 bs)

-- The triangles that the whole lines of the bytes spell.
abbrev pub list_of : List ℕ → List Triangle
list_of bs = spelled_by (length bs / 27) bs

-- The first n lines of the bytes are the text of as many triangles.
pub record Spells (bs : List ℕ) (n : ℕ) : Type 0 where
  pub within : 27 * n ≤ length bs
  pub count : length (spelled_by n bs) ≡ n
  pub text : text_of (spelled_by n bs) ≡ take (27 * n) bs

few : {X : Type 0} (o : Option X) → length (option_to_list o) ≤ 1
few None = omega arith
few (Some x) = omega arith

-- They are no more than the lines.
pub spelled_few : (n : ℕ) (bs : List ℕ) → length (spelled_by n bs) ≤ n
spelled_few zero bs = omega arith
spelled_few (suc n) bs =
    omega (arith, length-append (option_to_list (spelled (take 27 bs))) (spelled_by n (drop 27 bs)), few (spelled (take 27 bs)), spelled_few n (drop 27 bs))

-- A text goes out of form at a line, counted from 1: the lines before it are the text of a list, and what follows, which is not
-- empty, begins with the line of no triangle.
pub record FaultAt (bs : List ℕ) (line : ℕ) : Type 0 where
  pub before : List Triangle
  pub rest : List ℕ
  pub counted : line ≡ length before + 1
  pub split : bs ≡ text_of before ++ rest
  pub some : 0 < length rest
  pub astray : (t : Triangle) (more : List ℕ) → rest ≢ line_of t ++ more
