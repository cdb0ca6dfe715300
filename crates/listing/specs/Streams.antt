-- What is taken from a reader and what comes into a writer, where a clause may know their bytes. Assumes nothing.
use Rattle.std.specs.Prelude.{◌≡◌, ◌≢◌, ℕ, ◌<◌, ◌≤◌, List, [], ◌++◌, length, take, Ok, Err, Option, Result}
use Rattle.std.specs.Io.KnownBytes.{Appends, Consumes, IsAtEnd}

-- Fewer bytes than these are taken from a reader; where its bytes are known, what is taken and then what is left are what it had.
pub record TakesFewer (room : ℕ) (given left : Option (List ℕ)) : Type 0 where
  pub taken : List ℕ
  pub few : length taken < room
  pub parts : Consumes given left taken

-- A buffer is read into: what is taken stands at its front, and nothing is left unless it is full. Where reading fails, fewer
-- bytes were taken than the buffer has room for.
abbrev pub ReadInto : {E : Type 0} → Option (List ℕ) → Option (List ℕ) → Result ℕ E → List ℕ → Type 0
ReadInto given left (Ok n) buffer = (n ≤ length buffer) × Consumes given left (take n buffer) × (n < length buffer → IsAtEnd left)
ReadInto given left (Err e) buffer = TakesFewer (length buffer) given left

-- Only a front of an output, or nothing of it, came behind what a writer held.
pub record FrontWritten (held holds : Option (List ℕ)) (output : List ℕ) : Type 0 where
  pub front : List ℕ
  pub rest : List ℕ
  pub parts : output ≡ front ++ rest
  pub unfinished : rest ≢ []
  pub written : Appends held holds front

-- An output is written: all of it, or where writing fails a front.
abbrev pub WrittenWhole : {E : Type 0} → Option (List ℕ) → Option (List ℕ) → Result (Unit {0}) E → List ℕ → Type 0
WrittenWhole held holds (Ok done) output = Appends held holds output
WrittenWhole held holds (Err e) output = FrontWritten held holds output
