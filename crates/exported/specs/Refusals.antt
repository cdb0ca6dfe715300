-- The numbers by which refusals are told. Assumes nothing.
use Rattle.std.specs.Prelude.{ℕ}
use Rattle.scan.specs.Making as making
use Rattle.drawing.specs.Endings.{draw_number}
use Rattle.drawing.specs.Opening as opening
use Rattle.exported.specs.declared.refusal.Refusal.{Refusal}
use Rattle.exported.specs.declared.refusal.Refusal.TheVariants.{Scan, Open, Draw, Memory}

-- A refusal of a block, of an opening and of a draw has its own number; want of memory is 255.
abbrev pub number : Refusal → ℕ
number (Scan e) = making.number e
number (Open e) = opening.number e
number (Draw e) = draw_number e
number Memory = 255
