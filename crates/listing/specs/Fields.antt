-- What the fields of a line are read as, one after the other. Assumes nothing.
use Rattle.std.specs.Prelude.{◌≡◌, ℕ, zero, suc, ◌&&◌, List, [], ◌∷◌, length, Some, None, Option, if◌then◌else◌, ◌==◌, nat_le, option_and_then}
use Rattle.std.specs.Char.{is_ascii_digit}
use Rattle.std.specs.List.{list_all}
use Rattle.listing.specs.declared.header.Header.{Header}
use Rattle.drawing.specs.declared.letter.Letter.{Letter}
use Rattle.drawing.specs.declared.letter.Letter.TheVariants.{H, L}
use Rattle.tray.specs.Decimal.{value_after}

infixl 10 ◌>>=◌
abbrev pub ◌>>=◌ : {A B : Type 0} → Option A → (A → Option B) → Option B
o >>= f = option_and_then f o

-- What a call gives is what is read there, and leaves what is after it.
abbrev pub Takes : {A : Type 0} → Option (A × List (List ℕ)) → Option A → List (List ℕ) → Type 0
Takes read None after = read ≡ None
Takes read (Some x) after = read ≡ Some (x, after)

-- The number that bytes write.
unfoldable pub number_read : List ℕ → Option ℕ
number_read bs = if nat_le 1 (length bs) && (nat_le (length bs) 5 && (list_all is_ascii_digit bs && nat_le (value_after 0 bs) 65535)) then Some (value_after 0 bs) else None

-- The first field, and the fields after it.
abbrev pub field : List (List ℕ) → Option (List ℕ × List (List ℕ))
field [] = None
field (f ∷ fs) = Some (f, fs)

-- The first field as a number.
abbrev pub number_field : List (List ℕ) → Option (ℕ × List (List ℕ))
number_field fs = do
  f ← field fs
  n ← number_read f.0
  Some (n, f.1)

-- A side is 1 to 256.
abbrev pub side : {A : Type 0} → ℕ × A → Option (ℕ × A)
side x = if nat_le 1 x.0 && nat_le x.0 256 then Some x else None

abbrev pub side_field : List (List ℕ) → Option (ℕ × List (List ℕ))
side_field fs = number_field fs >>= side

-- H is byte 72, and L is byte 76.
abbrev pub letter_named : ℕ → Option Letter
letter_named b = if b == 72 then Some H else (if b == 76 then Some L else None)

-- A field of one byte names a letter.
abbrev pub letter_of : List ℕ → Option Letter
letter_of [] = None
letter_of (b ∷ []) = letter_named b
letter_of (b ∷ c ∷ bs) = None

abbrev pub letter_field : List (List ℕ) → Option (Letter × List (List ℕ))
letter_field fs = do
  f ← field fs
  l ← letter_of f.0
  Some (l, f.1)

-- What is read, if no field is left.
abbrev pub with_none : {A : Type 0} → A → List (List ℕ) → Option A
with_none x [] = Some x
with_none x (f ∷ fs) = None

-- The header that seven fields write.
unfoldable pub header_of : List (List ℕ) → Option Header
header_of fs = do
  nx ← side_field fs
  ny ← side_field nx.1
  nz ← side_field ny.1
  threshold ← number_field nz.1
  letter ← letter_field threshold.1
  s ← number_field letter.1
  h ← number_field s.1
  with_none (record { nx = nx.0; ny = ny.0; nz = nz.0; asked = record { test = record { threshold = threshold.0; letter = letter.0 }; s = s.0; h = h.0 } }) h.1

-- The n readings that n fields write.
abbrev pub row_of : ℕ → List (List ℕ) → Option (List ℕ)
row_of zero fs = with_none [] fs
row_of (suc n) fs = do
  x ← number_field fs
  xs ← row_of n x.1
  Some (x.0 ∷ xs)
