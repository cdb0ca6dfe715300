-- What reading a text tells: reading the text of a list gives back its triangles, and a text at fault is the text of no list. Assumes nothing.
use Rattle.std.proofs.Common.{◌≡◌, ℕ, ◌/◌, ◌<◌, ◌≤◌, List, [], ◌∷◌, ◌++◌, length, drop, Ok, Err, Result, sym, ap, ◌∙◌, append_assoc, append-nil, arith, length-append}
use Rattle.std.proofs.lemmas.List.{drop_at}
use Rattle.tray.specs.declared.text.TextRefusal.{TextRefusal}
use Rattle.tray.specs.declared.text.TextRefusal.TheVariants.{Line, NoRoom}
use Rattle.tray.specs.declared.triangle.Triangle.{Triangle}
use Rattle.tray.specs.Holding.{Held, added_all}
use Rattle.tray.specs.Lines.{line_of}
use Rattle.tray.specs.Reading.{Counted, Read}
use Rattle.tray.specs.Texts.{list_of, text_of, spelled_by, FaultAt}
use Rattle.tray.proofs.LineLaws.{length_line}
use Rattle.tray.proofs.TextLaws.{length_text, spelled_text, same_text}

after_line : (t : Triangle) (ts : List Triangle) (rest : List ℕ) → drop 27 (text_of (t ∷ ts) ++ rest) ≡ text_of ts ++ rest
after_line t ts rest = ap (drop 27) (append_assoc (line_of t) (text_of ts) rest) ∙ drop_at (line_of t) (text_of ts ++ rest) 27 (length_line t)

no_text : (before : List Triangle) (rest : List ℕ) → 0 < length rest → ((t : Triangle) (more : List ℕ) → rest ≡ line_of t ++ more → ⊥) → (ts : List Triangle) → text_of before ++ rest ≡ text_of ts → ⊥
no_text [] rest some astray [] e = omega (arith, ap length e)
no_text [] rest some astray (t ∷ ts) e = astray t (text_of ts) e
no_text (b ∷ bs) rest some astray [] e = omega (arith, ap length e, length-append (text_of (b ∷ bs)) rest)
no_text (b ∷ bs) rest some astray (t ∷ ts) e =
    no_text bs rest some astray ts (sym (after_line b bs rest) ∙ ap (drop 27) (e ∙ sym (append-nil _)) ∙ after_line t ts [] ∙ append-nil _)

-- A text at fault is the text of no list.
pub fault_no_text : (bs : List ℕ) (line : ℕ) → FaultAt bs line → (ts : List Triangle) → bs ≡ text_of ts → ⊥
fault_no_text bs line h ts e = no_text h.before h.rest h.some h.astray ts (sym h.split ∙ e)

-- The list of a text is what its lines spell.
pub list_whole : (bs : List ℕ) (ts : List Triangle) → bs ≡ text_of ts → list_of bs ≡ ts
list_whole bs ts e =
    let lines : length bs / 27 ≡ length ts = omega (arith, ap length e, length_text ts) in
    (λ i. spelled_by (lines i) ((e ∙ sym (append-nil (text_of ts))) i)) ∙ spelled_text ts []

-- Counting the text of a list gives its length.
pub counted_back : (bs : List ℕ) (r : Result ℕ TextRefusal) → Counted bs r → (ts : List Triangle) → bs ≡ text_of ts → r ≡ Ok (length ts)
counted_back bs (Ok n) h ts e = ap Ok (h.2 ∙ ap length (same_text h.0 ts (sym h.1 ∙ e)))
counted_back bs (Err (Line k)) h ts e = absurd (fault_no_text bs k h ts e)
counted_back bs (Err (NoRoom m f)) h ts e = absurd h

-- Reading the text of a list gives back its triangles, if there is room for them.
pub read_back : (bs : List ℕ) (before after : Held) (r : Result ℕ TextRefusal) → Read bs before r after → (ts : List Triangle) → bs ≡ text_of ts → length ts ≤ before.free → (r ≡ Ok (length ts)) × (after ≡ added_all before ts)
read_back bs before after (Ok n) h ts e room =
    let same = same_text h.0 ts (sym h.1 ∙ e) in
    (ap Ok (h.2 ∙ ap length same), h.4 ∙ ap (added_all before) same)
read_back bs before after (Err (Line k)) h ts e room = absurd (fault_no_text bs k h.0 ts e)
read_back bs before after (Err (NoRoom m f)) h ts e room =
    let same = same_text h.0.0 ts (sym h.0.1 ∙ e) in
    absurd (omega (arith, h.0.2, ap length same, h.1, h.2))

no_fewer : (ts us : List Triangle) (rest over : List ℕ) → ((t : Triangle) (more : List ℕ) → rest ≡ line_of t ++ more → ⊥) → text_of ts ++ rest ≡ text_of us ++ over → length us ≤ length ts
no_fewer ts [] rest over astray e = omega arith
no_fewer [] (u ∷ us) rest over astray e = absurd (astray u (text_of us ++ over) (e ∙ append_assoc (line_of u) (text_of us) over))
no_fewer (t ∷ ts) (u ∷ us) rest over astray e =
    let tail = no_fewer ts us rest over astray (sym (after_line t ts rest) ∙ ap (drop 27) e ∙ after_line u us over) in
    omega arith

-- A text is at fault in one line only.
pub same_fault : (bs : List ℕ) (j k : ℕ) → FaultAt bs j → FaultAt bs k → j ≡ k
same_fault bs j k g h =
    let low = no_fewer g.before h.before g.rest h.rest g.astray (sym g.split ∙ h.split) in
    let high = no_fewer h.before g.before h.rest g.rest h.astray (sym h.split ∙ g.split) in
    omega (arith, g.counted, h.counted)
