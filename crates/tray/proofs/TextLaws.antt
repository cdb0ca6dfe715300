-- The laws of the text of a list: each list has one text, and each text is of one list. Assumes nothing.
use Rattle.std.proofs.Common.{◌≡◌, ℕ, zero, suc, ◌+◌, ◌*◌, List, [], ◌∷◌, ◌++◌, length, take, drop, Some, None, Option, sym, refl, ap, ◌∙◌, subst, append_assoc, arith, length-append}
use Rattle.std.specs.Option.{option_to_list}
use Rattle.std.proofs.lemmas.List.{take_at, drop_at, drop-drop, flat_map_more}
use Rattle.tray.specs.declared.triangle.Triangle.{Triangle}
use Rattle.tray.specs.Holding.{Nth}
use Rattle.tray.specs.Lines.{LineRead, line_of, spelled}
use Rattle.tray.specs.Texts.{text_of, spelled_by}
use Rattle.tray.proofs.LineLaws.{length_line, same_line, spelled_line}
use Rattle.tray.proofs.LineReads.{read_past}

-- A line more at the end.
pub text_push : (ts : List Triangle) (t : Triangle) → text_of (ts ++ (t ∷ [])) ≡ text_of ts ++ line_of t
text_push ts t = sym (flat_map_more line_of [] ts t)

-- A text has 27 bytes for each triangle.
pub length_text : (ts : List Triangle) → length (text_of ts) ≡ 27 * length ts
length_text [] = refl
length_text (t ∷ ts) = length-append (line_of t) (text_of ts) ∙ omega (arith, length_line t, length_text ts)

-- Reading what is written: the lines of a text spell its list.
pub spelled_text : (ts : List Triangle) (more : List ℕ) → spelled_by (length ts) (text_of ts ++ more) ≡ ts
spelled_text [] more = refl
spelled_text (t ∷ ts) more =
    let regroup = append_assoc (line_of t) (text_of ts) more in
    let front = ap (take 27) regroup ∙ take_at (line_of t) (text_of ts ++ more) 27 (length_line t) in
    let back = ap (drop 27) regroup ∙ drop_at (line_of t) (text_of ts ++ more) 27 (length_line t) in
    (λ i. option_to_list (spelled (front i)) ++ spelled_by (length ts) (back i))
    ∙ (λ i. option_to_list (spelled_line t i) ++ spelled_text ts more i)

-- Two lists with one text are one.
pub same_text : (ss ts : List Triangle) → text_of ss ≡ text_of ts → ss ≡ ts
same_text ss ts e =
    let long : length ss ≡ length ts = omega (arith, ap length e, length_text ss, length_text ts) in
    sym (spelled_text ss [])
    ∙ (λ i. spelled_by (long i) (e i ++ []))
    ∙ spelled_text ts []

nth_more : (t : Triangle) (ts : List Triangle) (n : ℕ) (r : Option Triangle) → Nth ts n r → Nth (t ∷ ts) (suc n) r
nth_more t ts n None h = omega arith
nth_more t ts n (Some u) h = (omega (arith, h.0), h.1)

-- Reading the n-th line of a text tells the n-th triangle.
pub text_nth : (ts : List Triangle) (n : ℕ) (r : Option Triangle) → LineRead (take 27 (drop (27 * n) (text_of ts))) r → Nth ts n r
text_nth [] n None told = omega arith
text_nth [] n (Some t) told = absurd (read_past [] n (omega arith) t told)
text_nth (t ∷ ts) zero None told = absurd (told t (take_at (line_of t) (text_of ts) 27 (length_line t)))
text_nth (t ∷ ts) zero (Some u) told = (omega arith, same_line u t (sym told ∙ take_at (line_of t) (text_of ts) 27 (length_line t)))
text_nth (t ∷ ts) (suc n) r told =
    let next : 27 * suc n ≡ 27 + 27 * n = omega arith in
    let back = drop_at (line_of t) (text_of ts) 27 (length_line t) in
    let rest : drop (27 * suc n) (text_of (t ∷ ts)) ≡ drop (27 * n) (text_of ts) =
    ap (λ k. drop k (text_of (t ∷ ts))) next ∙ sym (drop-drop (27 * n) 27 (text_of (t ∷ ts))) ∙ ap (drop (27 * n)) back in
    nth_more t ts n r (text_nth ts n r (subst (λ l. LineRead (take 27 l) r) rest told))
