-- The line of a triangle: three link numbers of eight digits, parted by commas, and a line feed. Assumes nothing.
use Rattle.std.specs.Prelude.{◌≡◌, ℕ, ◌+◌, ◌*◌, List, [], ◌∷◌, ◌++◌, take, drop, Some, None, Option, ◌≢◌}
use mathlib.Core.List.{List-discrete}
use Rattle.std.proofs.Math.Decide.{ℕ_discrete}
use Rattle.tray.specs.declared.line.Mark.{Mark}
use Rattle.tray.specs.declared.line.Mark.TheVariants.{Comma, LineFeed}
use Rattle.tray.specs.declared.triangle.Triangle.{Triangle}
use Rattle.tray.specs.Corners.{Corners, corners?}
use Rattle.tray.specs.Decimal.{digits, value_after}

-- The byte of a mark.
abbrev pub mark_byte : Mark → ℕ
mark_byte Comma = 44
mark_byte LineFeed = 10

-- A number of eight digits, and the byte of the mark after it.
unfoldable pub cell : ℕ → ℕ → List ℕ
cell n mark = digits 8 n ++ (mark ∷ [])

-- The 27 bytes of a triangle.
unfoldable pub line_of : Triangle → List ℕ
line_of t = cell t.first (mark_byte Comma) ++ (cell t.second (mark_byte Comma) ++ cell t.third (mark_byte LineFeed))

-- Bytes are read as the triangle whose line they are, and as none only if they are the line of none.
abbrev pub LineRead : List ℕ → Option Triangle → Type 0
LineRead bs None = (t : Triangle) → bs ≢ line_of t
LineRead bs (Some t) = bs ≡ line_of t

-- The number that eight bytes spell from one place on.
abbrev pub digits_at : ℕ → List ℕ → ℕ
digits_at i bs = value_after 0 (take 8 (drop i bs))

-- What a decision on three corners gives: their triangle, if they are corners of one.
unfoldable pub decided : {a b c : ℕ} → Dec (Corners a b c) → Option Triangle
decided {a} {b} {c} (yes h) = Some (record { first = a; second = b; third = c; below = h.0; differ = h.1 })
decided (no h) = None

-- The triangle with these corners, if they are corners of one.
unfoldable pub triangle_with : ℕ → ℕ → ℕ → Option Triangle
triangle_with a b c = decided (corners? a b c)

-- The candidate is kept if the bytes are its line.
unfoldable pub kept : {bs : List ℕ} (t : Triangle) → Dec (bs ≡ line_of t) → Option Triangle
kept t (yes h) = Some t
kept t (no h) = None

-- A candidate that is there is tried.
unfoldable pub confirmed : List ℕ → Option Triangle → Option Triangle
confirmed bs None = None
confirmed bs (Some t) = kept t (List-discrete ℕ_discrete bs (line_of t))

-- The triangle whose line these bytes are, if there is one: only the triangle of the three numbers that they spell can be it.
unfoldable pub spelled : List ℕ → Option Triangle
spelled bs = confirmed bs (triangle_with (digits_at 0 bs) (digits_at 9 bs) (digits_at 18 bs))

-- The bytes with the line of a triangle at place n, from byte 27 n on, and every other byte as it was.
abbrev pub with_line : List ℕ → ℕ → Triangle → List ℕ
with_line bs n t = take (27 * n) bs ++ (line_of t ++ drop (27 * n + 27) bs)
