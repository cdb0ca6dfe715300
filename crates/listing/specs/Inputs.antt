-- What an input is, line by line, and which line of other bytes is the first out of form. Assumes nothing.
use Rattle.std.specs.Prelude.{◌≡◌, ℕ, zero, suc, ◌*◌, ◌<◌, ◌≤◌, ◌≢◌, ◌⊎◌, List, [], ◌∷◌, ◌++◌, length}
use Rattle.std.specs.List.{AllZip, concat, flat_map, join_with_byte}
use Rattle.listing.specs.declared.header.Header.{Header}
use Rattle.drawing.specs.declared.letter.Letter.{Letter}
use Rattle.drawing.specs.declared.letter.Letter.TheVariants.{H, L}
use Rattle.listing.specs.declared.unread.Unread.{Unread}
use Rattle.listing.specs.declared.unread.Unread.TheVariants.{TooLong, Line, Memory}
use Rattle.listing.specs.Numerals.{Writes}

-- A line: its letter, a comma, and its fields parted by commas.
abbrev pub line_of : ℕ → List (List ℕ) → List ℕ
line_of letter fields = letter ∷ 44 ∷ join_with_byte 44 fields

-- A side is written as a number from 1 to 256.
pub record WritesSide (bs : List ℕ) (n : ℕ) : Type 0 where
  pub number : Writes bs n
  pub low : 1 ≤ n
  pub high : n ≤ 256

-- The byte that names a letter.
abbrev pub letter_byte : Letter → ℕ
letter_byte H = 72
letter_byte L = 76

-- A header line has the letter S and seven fields: three sides, the threshold, a letter, s and h.
pub record HeaderLine (line : List ℕ) (header : Header) : Type 0 where
  pub nx : List ℕ
  pub ny : List ℕ
  pub nz : List ℕ
  pub threshold : List ℕ
  pub s : List ℕ
  pub h : List ℕ
  pub text : line ≡ line_of 83 (nx ∷ ny ∷ nz ∷ threshold ∷ (letter_byte header.asked.test.letter ∷ []) ∷ s ∷ h ∷ [])
  pub writes_nx : WritesSide nx header.nx
  pub writes_ny : WritesSide ny header.ny
  pub writes_nz : WritesSide nz header.nz
  pub writes_threshold : Writes threshold header.asked.test.threshold
  pub writes_s : Writes s header.asked.s
  pub writes_h : Writes h header.asked.h

-- A row line has the letter V and nx fields, a reading each.
pub record RowLine (nx : ℕ) (line : List ℕ) (row : List ℕ) : Type 0 where
  pub fields : List (List ℕ)
  pub text : line ≡ line_of 86 fields
  pub writes : AllZip Writes fields row
  pub count : length row ≡ nx

-- Lines joined, a line feed after each.
abbrev pub ended : List (List ℕ) → List ℕ
ended lines = flat_map (λ line. line ++ (10 ∷ [])) lines

-- Bytes begin with a header line and some row lines; the rest is what stands after them.
pub record Begun (bytes : List ℕ) (header : Header) (rows : List (List ℕ)) (rest : List ℕ) : Type 0 where
  pub first : List ℕ
  pub lines : List (List ℕ)
  pub text : bytes ≡ ended (first ∷ lines) ++ rest
  pub header_line : HeaderLine first header
  pub row_lines : AllZip (RowLine header.nx) lines rows

-- An input is a header line and ny times nz row lines, and has the readings of the rows, one row after the other.
pub record Listed (bytes : List ℕ) (header : Header) (readings : List ℕ) : Type 0 where
  pub rows : List (List ℕ)
  pub begun : Begun bytes header rows []
  pub count : length rows ≡ header.ny * header.nz
  pub all : concat rows ≡ readings

-- No header line, or no row line, stands first in these bytes.
abbrev pub LacksHeader : List ℕ → Type 0
LacksHeader bytes = (header : Header) (line rest : List ℕ) → bytes ≡ line ++ (10 ∷ rest) → HeaderLine line header → ⊥

abbrev pub LacksRow : ℕ → List ℕ → Type 0
LacksRow nx bytes = (row line rest : List ℕ) → bytes ≡ line ++ (10 ∷ rest) → RowLine nx line row → ⊥

-- After n rows there is not what is asked for there: a row while rows are missing, and nothing after the last.
abbrev pub Out : Header → ℕ → List ℕ → Type 0
Out header n rest = ((n < header.ny * header.nz) × LacksRow header.nx rest) ⊎ ((n ≡ header.ny * header.nz) × (rest ≢ []))

-- The header line and n rows are in form, and what stands after them is not.
pub record OutAfter (bytes : List ℕ) (n : ℕ) : Type 0 where
  pub header : Header
  pub rows : List (List ℕ)
  pub rest : List ℕ
  pub begun : Begun bytes header rows rest
  pub count : length rows ≡ n
  pub out : Out header n rest

-- The first line out of form has this number: the lines before it are in form, and it is not, is missing, or is one too many.
abbrev pub FirstOut : List ℕ → ℕ → Type 0
FirstOut bytes zero = ⊥
FirstOut bytes (suc zero) = LacksHeader bytes
FirstOut bytes (suc (suc n)) = OutAfter bytes n

-- An input has at most so many bytes.
abbrev pub most_bytes : ℕ
most_bytes = 32768

-- An input is accepted if it is no longer.
abbrev pub Accepted : List ℕ → Header → List ℕ → Type 0
Accepted bytes header readings = (length bytes ≤ most_bytes) × Listed bytes header readings

-- Longer ones are told as too long, others by the first line out of form; want of memory is told of accepted inputs alone.
abbrev pub Refused : List ℕ → Unread → Type 0
Refused bytes TooLong = most_bytes < length bytes
Refused bytes (Line k) = (length bytes ≤ most_bytes) × FirstOut bytes k
Refused bytes Memory = (header : Header) × (readings : List ℕ) × Accepted bytes header readings

-- Bytes are an input in one way, or have one first line out of form, and never both.
pub record OneAnswer (bytes : List ℕ) : Type 0 where
  pub some : ((header : Header) × (readings : List ℕ) × Listed bytes header readings) ⊎ ((k : ℕ) × FirstOut bytes k)
  pub apart : (header : Header) (readings : List ℕ) (k : ℕ) → Listed bytes header readings → FirstOut bytes k → ⊥
  pub one_input : (g h : Header) (xs ys : List ℕ) → Listed bytes g xs → Listed bytes h ys → (g ≡ h) × (xs ≡ ys)
  pub one_line : (j k : ℕ) → FirstOut bytes j → FirstOut bytes k → j ≡ k
