-- What lines are read as, one after the other. Assumes nothing.
use Rattle.std.specs.Prelude.{◌≡◌, ℕ, zero, suc, ◌+◌, ◌*◌, List, [], ◌∷◌, ◌++◌, Some, None, Option, Ok, Err, Result, if◌then◌else◌, ◌==◌}
use Rattle.std.specs.Option.{option_map}
use Rattle.listing.specs.declared.header.Header.{Header}
use Rattle.listing.specs.declared.line.Line as lines
use Rattle.listing.specs.declared.line.Line.TheVariants as line
use Rattle.listing.specs.declared.unread.Unread.{Unread}
use Rattle.listing.specs.declared.unread.Unread.TheVariants.{TooLong, Line, Memory}
use Rattle.listing.specs.Cutting.{cut, pieces}
use Rattle.listing.specs.Fields.{◌>>=◌, header_of, row_of}

-- The rest of a line, if its letter is S or V.
abbrev pub header_named : ℕ → List ℕ → Option (List ℕ)
header_named letter rest = if letter == 83 then Some rest else None

abbrev pub row_named : ℕ → List ℕ → Option (List ℕ)
row_named letter rest = if letter == 86 then Some rest else None

-- The same of a line whose comma is still to be seen.
abbrev pub header_rest : List ℕ → Option (List ℕ)
header_rest [] = None
header_rest (b ∷ []) = None
header_rest (b ∷ c ∷ rest) = if c == 44 then header_named b rest else None

abbrev pub row_rest : List ℕ → Option (List ℕ)
row_rest [] = None
row_rest (b ∷ []) = None
row_rest (b ∷ c ∷ rest) = if c == 44 then row_named b rest else None

-- What the two kinds of line keep: their bytes, and what follows letter and comma.
abbrev pub as_header : Option lines.Line → Option (List ℕ × List ℕ)
as_header None = None
as_header (Some (line.Header bytes rest)) = Some (bytes.now, rest.now)
as_header (Some (line.Row bytes rest)) = None

abbrev pub as_row : Option lines.Line → Option (List ℕ × List ℕ)
as_row None = None
as_row (Some (line.Header bytes rest)) = None
as_row (Some (line.Row bytes rest)) = Some (bytes.now, rest.now)

-- The header that a line writes.
unfoldable pub header_of_line : List ℕ → Option Header
header_of_line bs = header_rest bs >>= λ rest. header_of (pieces 44 rest)

-- The n readings that a line writes.
unfoldable pub row_of_line : ℕ → List ℕ → Option (List ℕ)
row_of_line n bs = row_rest bs >>= λ rest. row_of n (pieces 44 rest)

-- What is read, behind a front that is read already.
abbrev pub behind : List ℕ → Option (List ℕ) → Option (List ℕ)
behind front read = option_map (λ xs. front ++ xs) read

-- What is there is read on; where it lacks, the number is told.
abbrev pub or_told : {A B : Type 0} → ℕ → Option A → (A → Result B ℕ) → Result B ℕ
or_told number None f = Err number
or_told number (Some x) f = f x

abbrev pub behind_all : List ℕ → Result (List ℕ) ℕ → Result (List ℕ) ℕ
behind_all front (Ok xs) = Ok (front ++ xs)
behind_all front (Err k) = Err k

-- The readings of n rows that are all of the bytes, or the number of the first line that is not as it should be; the first row has this number.
unfoldable pub rows_of : ℕ → ℕ → ℕ → List ℕ → Result (List ℕ) ℕ
rows_of zero nx number [] = Ok []
rows_of zero nx number (b ∷ bs) = Err number
rows_of (suc n) nx number bs = or_told number (cut 10 bs) (λ c. or_told number (row_of_line nx c.0) (λ row. behind_all row (rows_of n nx (number + 1) c.1)))

-- The first line out of form is told by its number; want of memory is told only where all lines are in form.
abbrev pub LineTold : {A : Type 0} → Result A ℕ → Unread → Type 0
LineTold read TooLong = ⊥
LineTold read (Line k) = read ≡ Err k
LineTold {A} read Memory = (x : A) × (read ≡ Ok x)

abbrev pub with_header : Header → Result (List ℕ) ℕ → Result (Header × List ℕ) ℕ
with_header header (Ok readings) = Ok (header, readings)
with_header header (Err k) = Err k

-- What an input says, or the number of the first line out of form.
unfoldable pub input_of : List ℕ → Result (Header × List ℕ) ℕ
input_of bs = or_told 1 (cut 10 bs) (λ c. or_told 1 (header_of_line c.0) (λ header. with_header header (rows_of (header.ny * header.nz) header.nx 2 c.1)))
