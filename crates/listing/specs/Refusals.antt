-- The numbers and the texts by which unread inputs are told. Assumes nothing.
use Rattle.std.specs.Prelude.{ℕ, List, ◌++◌, None, Option, Some, codes, if◌then◌else◌, nat_lt}
use Rattle.std.specs.Fmt.{decimal}
use Rattle.listing.specs.ClosingLines.{refusal_text}
use Rattle.listing.specs.declared.unread.Unread.{Unread}
use Rattle.listing.specs.declared.unread.Unread.TheVariants.{TooLong, Line, Memory}

-- An input that is too long is refusal 17, and one with a line out of form 18; want of memory is no refusal.
abbrev pub refusal_number : Unread → Option ℕ
refusal_number TooLong = Some 17
refusal_number (Line k) = Some 18
refusal_number Memory = None

-- Only the line is told.
abbrev pub told_by : Unread → ℕ
told_by TooLong = 0
told_by (Line k) = k
told_by Memory = 0

-- The line of a refusal, if eight digits write what it tells.
abbrev pub unread_line : Unread → Option (List ℕ)
unread_line TooLong = Some (refusal_text 17 0)
unread_line (Line k) = if nat_lt k 100000000 then Some (refusal_text 18 k) else None
unread_line Memory = None

-- A refusal is printed by its number and the reason, with the line that it tells.
abbrev pub unread_text : Unread → List ℕ
unread_text TooLong = codes "refused with 17, the input is over 32768 bytes"
unread_text (Line k) = codes "refused with 18, line " ++ (decimal k ++ codes " is out of form")
unread_text Memory = codes "no memory for the readings or the output"
