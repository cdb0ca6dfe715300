-- The numbers and the texts by which refusals are told. Assumes nothing.
use Rattle.std.specs.Prelude.{ℕ, List, ◌++◌, codes}
use Rattle.std.specs.Fmt.{decimal}
use Rattle.tray.specs.declared.text.TextRefusal.{TextRefusal}
use Rattle.tray.specs.declared.text.TextRefusal.TheVariants.{Line, NoRoom}
use Rattle.tray.specs.declared.triangle.making.TriangleRefusal.{TriangleRefusal}
use Rattle.tray.specs.declared.triangle.making.TriangleRefusal.TheVariants.{EqualOrTooLarge}

-- Making a triangle of two equal numbers, or of one too large, is refusal 19.
abbrev pub refusal_number : TriangleRefusal → ℕ
refusal_number EqualOrTooLarge = 19

-- The refusal of a triangle is told by its number.
abbrev pub refused_text : TriangleRefusal → List ℕ
refused_text refusal = codes "refused with " ++ decimal (refusal_number refusal)

-- The refusal of a text or of bytes is told by the line at fault, or by both numbers.
abbrev pub text_refused_text : TextRefusal → List ℕ
text_refused_text (Line k) = codes "line " ++ decimal k ++ codes " is the line of no triangle"
text_refused_text (NoRoom m f) = decimal m ++ (codes " triangles want a place and " ++ (decimal f ++ codes " are free"))
