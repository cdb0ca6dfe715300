-- What writing the text of a list and reading one tell and leave. Assumes nothing.
use Rattle.std.specs.Prelude.{◌≡◌, ℕ, ◌*◌, ◌/◌, ◌<◌, ◌≤◌, List, ◌++◌, length, drop, Ok, Err, Result}
use Rattle.tray.specs.declared.text.TextRefusal.{TextRefusal}
use Rattle.tray.specs.declared.text.TextRefusal.TheVariants.{Line, NoRoom}
use Rattle.tray.specs.declared.triangle.Triangle.{Triangle}
use Rattle.tray.specs.Holding.{Held, added_all}
use Rattle.tray.specs.Texts.{text_of, FaultAt}

-- A list is written over the front of the bytes, and the number of bytes written is told; it is refused, with no change, only where
-- they have fewer places than it has triangles.
abbrev pub Written : List Triangle → List ℕ → Result ℕ TextRefusal → List ℕ → Type 0
Written ts before (Ok n) after = (length ts ≤ length before / 27) × (n ≡ 27 * length ts) × (after ≡ text_of ts ++ drop (27 * length ts) before)
Written ts before (Err (Line k)) after = ⊥
Written ts before (Err (NoRoom m f)) after = (m ≡ length ts) × (f ≡ length before / 27) × (f < m) × (after ≡ before)

-- A text is told by the number of its triangles, and anything else by the line at fault.
abbrev pub Counted : List ℕ → Result ℕ TextRefusal → Type 0
Counted bs (Ok n) = (ts : List Triangle) × (bs ≡ text_of ts) × (n ≡ length ts)
Counted bs (Err (Line k)) = FaultAt bs k
Counted bs (Err (NoRoom m f)) = ⊥

-- The triangles of a text go into a tray, and their number is told; the text is refused, with no change, where a line is at fault,
-- and else only where the tray has fewer free places.
abbrev pub Read : List ℕ → Held → Result ℕ TextRefusal → Held → Type 0
Read bs before (Ok n) after = (ts : List Triangle) × (bs ≡ text_of ts) × (n ≡ length ts) × (n ≤ before.free) × (after ≡ added_all before ts)
Read bs before (Err (Line k)) after = FaultAt bs k × (after ≡ before)
Read bs before (Err (NoRoom m f)) after = ((ts : List Triangle) × (bs ≡ text_of ts) × (m ≡ length ts)) × (f ≡ before.free) × (f < m) × (after ≡ before)
