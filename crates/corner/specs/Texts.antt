-- What is printed of refusals. Assumes nothing.
use Rattle.std.specs.Prelude.{ℕ, List, ◌++◌, codes}
use Rattle.std.specs.Fmt.{decimal}
use Rattle.corner.specs.Placing.{number}
use Rattle.corner.specs.declared.refusal.PlaceRefusal.{PlaceRefusal}
use Rattle.corner.specs.declared.refusal.PlaceRefusal.TheVariants.{OtherSides, NoLink, Lacking, OneKind}

-- A refusal is printed by its number and the reason.
abbrev pub reason : PlaceRefusal → List ℕ
reason OtherSides = codes ", the scan has other sides"
reason NoLink = codes ", no link has this number"
reason Lacking = codes ", an end lacks a reading"
reason OneKind = codes ", both ends are of one kind"

abbrev pub place_text : PlaceRefusal → List ℕ
place_text e = codes "refused with " ++ (decimal (number e) ++ reason e)
