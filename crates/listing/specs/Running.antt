-- What the program does between a reader and a writer, of which a clause may know the bytes. Assumes nothing.
use Rattle.std.specs.Prelude.{◌≡◌, ◌≢◌, ℕ, ◌+◌, List, Ok, Err, Option, Result, IfSome, None, Some, codes, take}
use Rattle.std.specs.IoError.{error_kind}
use Rattle.std.specs.declared.io.ErrorKind.TheVariants.{Interrupted}
use Rattle.std.specs.Io.KnownBytes.{Appends, Consumes, Keeps}
use Rattle.listing.specs.Inputs.{Accepted, most_bytes}
use Rattle.listing.specs.Listings.{Listing}
use Rattle.listing.specs.Streams.{FrontWritten, TakesFewer}
use Rattle.listing.specs.declared.header.Header.{Header}
use Rattle.listing.specs.declared.outcome.Outcome.{Outcome}
use Rattle.listing.specs.declared.run_error.RunError.{RunError}
use Rattle.listing.specs.declared.run_error.RunError.TheVariants.{Memory, Reading, Writing}

-- One byte more than an input may have is read, so that a longer one shows.
abbrev pub read_bytes : ℕ
read_bytes = most_bytes + 1

-- An input is all that a reader has, where that is known; what is taken of it is its front, up to that limit.
pub record InputRead (given left : Option (List ℕ)) (input : List ℕ) : Type 0 where
  pub whole : IfSome given (λ bytes. input ≡ bytes)
  pub taken : Consumes given left (take read_bytes input)

-- An output of an input comes behind what the writer held: all of it, or a front where writing fails.
pub record OutputWritten (input : List ℕ) (held holds : Option (List ℕ)) (outcome : Outcome) : Type 0 where
  pub output : List ℕ
  pub listing : Listing input output outcome
  pub written : Appends held holds output

pub record OutputBroken (input : List ℕ) (held holds : Option (List ℕ)) : Type 0 where
  pub output : List ℕ
  pub outcome : Outcome
  pub listing : Listing input output outcome
  pub written : FrontWritten held holds output

-- Memory lacks for an input that is accepted, and nothing is written.
pub record OutputLacking (input : List ℕ) (held holds : Option (List ℕ)) : Type 0 where
  pub header : Header
  pub readings : List ℕ
  pub accepted : Accepted input header readings
  pub kept : Keeps held holds

-- The bytes of an output are written, or where writing fails a front, and how the output ends is answered.
abbrev pub Written : List ℕ → Outcome → Option (List ℕ) → Option (List ℕ) → Result Outcome RunError → Type 0
Written output how held holds (Ok outcome) = (outcome ≡ how) × Appends held holds output
Written output how held holds (Err Memory) = ⊥
Written output how held holds (Err (Reading e)) = ⊥
Written output how held holds (Err (Writing e)) = FrontWritten held holds output

-- An input that was read is answered; only memory and writing can fail then.
abbrev pub Answered : List ℕ → Option (List ℕ) → Option (List ℕ) → Result Outcome RunError → Type 0
Answered input held holds (Ok outcome) = OutputWritten input held holds outcome
Answered input held holds (Err Memory) = OutputLacking input held holds
Answered input held holds (Err (Reading e)) = ⊥
Answered input held holds (Err (Writing e)) = OutputBroken input held holds

-- Where reading fails, fewer bytes than the limit were taken, and nothing is written.
abbrev pub ReadFailed : Option (List ℕ) → Option (List ℕ) → Option (List ℕ) → Option (List ℕ) → Type 0
ReadFailed given left held holds = TakesFewer read_bytes given left × Keeps held holds

-- An interruption is no failure: what was interrupted is tried again.
abbrev pub Uninterrupted : Result Outcome RunError → Type 0
Uninterrupted (Ok outcome) = Unit {0}
Uninterrupted (Err Memory) = Unit {0}
Uninterrupted (Err (Reading e)) = error_kind e ≢ Interrupted
Uninterrupted (Err (Writing e)) = error_kind e ≢ Interrupted

-- An input is read, and answered.
abbrev pub ReadAnswered : Option (List ℕ) → Option (List ℕ) → Option (List ℕ) → Option (List ℕ) → Result Outcome RunError → Type 0
ReadAnswered given left held holds result = (input : List ℕ) × InputRead given left input × Answered input held holds result

-- A run: reading fails, or an input is read and answered.
abbrev pub Ran : Option (List ℕ) → Option (List ℕ) → Option (List ℕ) → Option (List ℕ) → Result Outcome RunError → Type 0
Ran given left held holds (Ok outcome) = ReadAnswered given left held holds (Ok outcome)
Ran given left held holds (Err Memory) = ReadAnswered given left held holds (Err Memory)
Ran given left held holds (Err (Reading e)) = ReadFailed given left held holds
Ran given left held holds (Err (Writing e)) = ReadAnswered given left held holds (Err (Writing e))

-- What is printed of want of memory; the text of another failure is partly the system's.
abbrev pub run_error_text : RunError → Option (List ℕ)
run_error_text Memory = Some (codes "no memory for the readings or the output")
run_error_text (Reading e) = None
run_error_text (Writing e) = None
