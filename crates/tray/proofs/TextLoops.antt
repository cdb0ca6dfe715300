-- Loops over the lines of a text: one that writes them, and one that reads them. Assumes nothing.
use Rattle.std.proofs.Common.{◌≡◌, ℕ, ◌+◌, ◌*◌, ◌/◌, ◌<◌, ◌≤◌, true, false, List, [], ◌∷◌, ◌++◌, length, get_or, take, drop, min, is_some, Some, None, Ok, Err, Option, Result, sym, ap, ◌∙◌, append_assoc, append-nil, arith, length-append, MatchResult}
use Rattle.std.proofs.lemmas.List.{take_at, drop_at, drop-drop, take_more, length-take-le, length_push}
use Rattle.std.proofs.lemmas.Bool.{true≢false, false≢true}
use Rattle.tray.specs.declared.triangle.Triangle.{Triangle}
use Rattle.tray.specs.Lines.{LineRead, line_of, with_line}
use Rattle.tray.specs.Reading.{Counted}
use Rattle.tray.specs.Texts.{text_of, FaultAt}
use Rattle.tray.proofs.LineLaws.{length_line}
use Rattle.tray.proofs.Cuts.{same_parts}
use Rattle.tray.proofs.TextLaws.{text_push, length_text}

-- One triangle more is written behind the first n.
with_next : (ts : List Triangle) (given : List ℕ) (n : ℕ) (t : Triangle) → n < length ts → t ≡ get_or ts n t → with_line (text_of (take n ts) ++ drop (27 * n) given) n t ≡ text_of (take (n + 1) ts) ++ drop (27 * (n + 1)) given
with_next ts given n t within read =
    let p = text_of (take n ts) in
    let q = drop (27 * n) given in
    let long : length p ≡ 27 * n = omega (arith, length_text (take n ts), length-take-le n ts (omega arith)) in
    let next : 27 * n + 27 ≡ 27 * (n + 1) = omega arith in
    let rest : drop (27 * n + 27) (p ++ q) ≡ drop (27 * (n + 1)) given =
    sym (drop-drop 27 (27 * n) (p ++ q)) ∙ ap (drop 27) (drop_at p q (27 * n) long) ∙ drop-drop 27 (27 * n) given ∙ ap (λ k. drop k given) next in
    let more : take (n + 1) ts ≡ take n ts ++ (t ∷ []) = take_more ts n t within ∙ ap (λ x. take n ts ++ (x ∷ [])) (sym read) in
    (λ i. take_at p q (27 * n) long i ++ (line_of t ++ rest i))
    ∙ sym (append_assoc p (line_of t) (drop (27 * (n + 1)) given))
    ∙ ap (λ l. l ++ drop (27 * (n + 1)) given) (sym (text_push (take n ts) t) ∙ ap text_of (sym more))

pub write_more : {E : Type 0} (r : Result (Unit {0}) E) (ts : List Triangle) (bs after given : List ℕ) (n : ℕ) (t : Triangle) → n < length ts → t ≡ get_or ts n t → length ts ≤ length given / 27 → length bs ≡ length given → bs ≡ text_of (take n ts) ++ drop (27 * n) given → MatchResult r (λ _. (27 * n + 27 ≤ length bs) × (after ≡ with_line bs n t)) (λ _. (length bs < 27 * n + 27) × (after ≡ bs)) → after ≡ text_of (take (n + 1) ts) ++ drop (27 * (n + 1)) given
write_more (Ok done) ts bs after given n t within read room same e h = h.1 ∙ ap (λ l. with_line l n t) e ∙ with_next ts given n t within read
write_more (Err full) ts bs after given n t within read room same e h = absurd (omega (arith, h.0))

-- A loop over chunks of 27 bytes: what went before the bytes that are left is the text of a list.
pub record Front (bs left : List ℕ) (size n : ℕ) : Type 0 where
  pub before : List Triangle
  pub width : size ≡ 27
  pub counted : n ≡ length before
  pub split : bs ≡ text_of before ++ left

module _ (bs left x more : List ℕ) (size n : ℕ) (h : Front bs left size n) (cut : left ≡ x ++ more) where
  -- A line of a triangle goes before.
  pub front_more : (r : Option Triangle) (next : ℕ) → LineRead x r → is_some r ≡ true → next ≡ size → Front bs more next (n + 1)
  front_more None next told is same = absurd (false≢true is)
  front_more (Some t) next told is same = record {
    before = h.before ++ (t ∷ []);
    width = same ∙ h.width;
    counted = omega (arith, h.counted, length_push h.before t);
    split =
        h.split
        ∙ ap (λ l. text_of h.before ++ l) (cut ∙ ap (λ l. l ++ more) told)
        ∙ sym (append_assoc (text_of h.before) (line_of t) more)
        ∙ ap (λ l. l ++ more) (sym (text_push h.before t));
  }

  -- A line of no triangle is the first at fault, and so is one that is too short.
  pub front_fault : (r : Option Triangle) → LineRead x r → is_some r ≡ false → length x ≡ min size (length left) → 0 < length left → FaultAt bs (n + 1)
  front_fault (Some t) told is long some = absurd (true≢false is)
  front_fault None told is long some = record {
    before = h.before;
    rest = left;
    counted = omega (arith, h.counted);
    split = h.split;
    some = some;
    astray = λ t over e.
        let whole : length x ≡ 27 = omega (arith, ap length e, length-append (line_of t) over, length_line t, h.width) in
        told t (same_parts x more (line_of t) over 27 whole (length_line t) (sym cut ∙ e)).0;
  }

-- Where nothing is left, all of it is.
pub front_all : (bs left : List ℕ) (size n : ℕ) → Front bs left size n → length left ≡ 0 → Counted bs (Ok (length bs / 27))
front_all bs [] size n h none =
    let whole = h.split ∙ append-nil (text_of h.before) in
    (h.before, whole, omega (arith, ap length whole, length_text h.before))
front_all bs (b ∷ left) size n h none = absurd (omega arith)
