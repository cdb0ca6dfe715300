-- A buffer whose first n lines spell a list: writing the next line, and reading one. Assumes nothing.
use Rattle.std.proofs.Common.{◌≡◌, ℕ, ◌+◌, ◌*◌, ◌≤◌, List, [], ◌∷◌, ◌++◌, length, take, drop, sym, ap, ◌∙◌, subst, append_assoc, arith, length-append, length-drop}
use Rattle.std.proofs.lemmas.List.{take_at, drop_at, length-take-le, length_push}
use Rattle.tray.specs.declared.triangle.Triangle.{Triangle}
use Rattle.tray.specs.Lines.{line_of, with_line}
use Rattle.tray.specs.Texts.{Spells, text_of, spelled_by}
use Rattle.tray.proofs.LineLaws.{length_line}
use Rattle.tray.proofs.TextLaws.{text_push, length_text, spelled_text}

-- The next line goes behind the text.
next_line : (bs : List ℕ) (n : ℕ) (t : Triangle) → Spells bs n → with_line bs n t ≡ text_of (spelled_by n bs ++ (t ∷ [])) ++ drop (27 * n + 27) bs
next_line bs n t h =
    ap (λ l. l ++ (line_of t ++ drop (27 * n + 27) bs)) (sym h.text)
    ∙ sym (append_assoc (text_of (spelled_by n bs)) (line_of t) _)
    ∙ ap (λ l. l ++ drop (27 * n + 27) bs) (sym (text_push (spelled_by n bs) t))

pub spelled_next : (bs : List ℕ) (n : ℕ) (t : Triangle) → Spells bs n → spelled_by (n + 1) (with_line bs n t) ≡ spelled_by n bs ++ (t ∷ [])
spelled_next bs n t h =
    let ts = spelled_by n bs ++ (t ∷ []) in
    let long : n + 1 ≡ length ts = omega (arith, length_push (spelled_by n bs) t, h.count) in
    (λ i. spelled_by (long i) (next_line bs n t h i)) ∙ spelled_text ts (drop (27 * n + 27) bs)

-- The lines of a text spell its list.
spells_text : (ts : List Triangle) (rest : List ℕ) → Spells (text_of ts ++ rest) (length ts)
spells_text ts rest = record {
  within = omega (arith, length-append (text_of ts) rest, length_text ts);
  count = ap length (spelled_text ts rest);
  text = ap text_of (spelled_text ts rest) ∙ sym (take_at (text_of ts) rest (27 * length ts) (length_text ts));
}

pub spells_next : (bs : List ℕ) (n : ℕ) (t : Triangle) → Spells bs n → Spells (with_line bs n t) (n + 1)
spells_next bs n t h =
    let ts = spelled_by n bs ++ (t ∷ []) in
    let long : length ts ≡ n + 1 = omega (arith, length_push (spelled_by n bs) t, h.count) in
    subst (λ x. x) (λ i. Spells (sym (next_line bs n t h) i) (long i)) (spells_text ts (drop (27 * n + 27) bs))

-- A line in its place leaves the bytes as many as they were.
pub length_with_line : (bs : List ℕ) (n : ℕ) (t : Triangle) → 27 * n + 27 ≤ length bs → length (with_line bs n t) ≡ length bs
length_with_line bs n t room =
    let rest = drop (27 * n + 27) bs in
    omega (arith, length-append (take (27 * n) bs) (line_of t ++ rest), length-append (line_of t) rest, length-take-le (27 * n) bs (omega arith), length_line t, length-drop (27 * n + 27) bs)

-- Past the line nothing changes.
pub drop_with_line : (bs : List ℕ) (n m : ℕ) (t : Triangle) → 27 * n + 27 ≤ length bs → m ≡ n + 1 → drop (27 * m) (with_line bs n t) ≡ drop (27 * m) bs
drop_with_line bs n m t room e =
    let rest = drop (27 * n + 27) bs in
    let front = take (27 * n) bs ++ line_of t in
    let at : 27 * n + 27 ≡ 27 * m = omega arith in
    let long : length front ≡ 27 * m = omega (arith, length-append (take (27 * n) bs) (line_of t), length-take-le (27 * n) bs (omega arith), length_line t) in
    ap (drop (27 * m)) (sym (append_assoc (take (27 * n) bs) (line_of t) rest))
    ∙ drop_at front rest (27 * m) long
    ∙ ap (λ k. drop k bs) at
