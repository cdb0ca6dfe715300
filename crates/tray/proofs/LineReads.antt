-- What the readers of a line tell: the number or the triangle that was written, or that none was. Assumes nothing.
use Rattle.std.proofs.Common.{◌≡◌, ℕ, ◌+◌, ◌*◌, ◌<◌, List, [], ◌∷◌, ◌++◌, length, take, drop, Some, None, Ok, Err, Option, Result, sym, ap, ◌∙◌, subst, arith, length-take, length-drop, take-append-drop, MatchOption, MatchResult, zero, suc, get_or, refl}
use Rattle.std.specs.List.{IsSplitAt}
use Rattle.std.specs.Simd.{first_chunks}
use Rattle.std.specs.Result.{result_ok}
use Rattle.std.proofs.lemmas.List.{drop-drop, same_from_push}
use Rattle.tray.specs.declared.triangle.Triangle.{Triangle}
use Rattle.tray.specs.Corners.{Corners}
use Rattle.tray.specs.Decimal.{digits}
use Rattle.tray.specs.Lines.{LineRead, cell, line_of}
use Rattle.tray.proofs.Decimals.{same_number}
use Rattle.tray.proofs.LineLaws.{length_cell, length_line}
use Rattle.tray.proofs.Cuts.{same_parts}

-- What the bytes before the mark tell of the bytes with it.
pub cell_read : (r : Option ℕ) (bs ds : List ℕ) (mark : ℕ) → bs ≡ ds ++ (mark ∷ []) → MatchOption r ((n : ℕ) → n < 100000000 → ds ≡ digits 8 n → ⊥) (λ n. (n < 100000000) × (ds ≡ digits 8 n)) → MatchOption r ((n : ℕ) → n < 100000000 → bs ≡ cell n mark → ⊥) (λ n. (n < 100000000) × (bs ≡ cell n mark))
unfolding cell
cell_read None bs ds mark cut h = λ n small e. h n small (same_from_push ds (digits 8 n) mark mark (sym cut ∙ e)).0
cell_read (Some n) bs ds mark cut h = (h.0, cut ∙ ap (λ l. l ++ (mark ∷ [])) h.1)

same_cell : (m n mark : ℕ) → m < 100000000 → n < 100000000 → cell m mark ≡ cell n mark → m ≡ n
unfolding cell
same_cell m n mark p q e = same_number 8 m n p q (same_from_push (digits 8 m) (digits 8 n) mark mark e).0

-- Bytes that are cut in three, of which the first two have nine.
pub record Thirds (bs one two three : List ℕ) : Type 0 where
  pub whole : bs ≡ one ++ (two ++ three)
  pub one_long : length one ≡ 9
  pub two_long : length two ≡ 9

split_is : (bs front back : List ℕ) → IsSplitAt bs 9 front back → bs ≡ front ++ back
split_is bs front back h = sym (take-append-drop 9 bs) ∙ (λ i. sym h.1 i ++ sym h.2 i)

pub thirds : (bs one rest two three : List ℕ) → IsSplitAt bs 9 one rest → IsSplitAt rest 9 two three → Thirds bs one two three
thirds bs one rest two three g h =
    record { whole = split_is bs one rest g ∙ ap (λ l. one ++ l) (split_is rest two three h); one_long = g.3; two_long = h.3 }

-- If they are a triangle's line, each third is a cell.
abbrev Cells : (one two three : List ℕ) → Triangle → Type 0
Cells one two three t = (one ≡ cell t.first 44) × (two ≡ cell t.second 44) × (three ≡ cell t.third 10)

cells_of : (bs one two three : List ℕ) (t : Triangle) → Thirds bs one two three → bs ≡ line_of t → Cells one two three t
unfolding line_of
cells_of bs one two three t h e =
    let front = same_parts one (two ++ three) (cell t.first 44) _ 9 h.one_long (length_cell t.first 44) (sym h.whole ∙ e) in
    let back = same_parts two three (cell t.second 44) (cell t.third 10) 9 h.two_long (length_cell t.second 44) front.1 in
    (front.0, back.0, back.1)

pub in_thirds : (bs one rest two three : List ℕ) (t : Triangle) → IsSplitAt bs 9 one rest → IsSplitAt rest 9 two three → bs ≡ line_of t → Cells one two three t
in_thirds bs one rest two three t g h = cells_of bs one two three t (thirds bs one rest two three g h)

-- What making a triangle of the three numbers tells of the line.
pub line_read : {E : Type 0} (r : Result Triangle E) (o : Option Triangle) (bs : List ℕ) (a b c : ℕ) → a < 100000000 → b < 100000000 → c < 100000000 → bs ≡ cell a 44 ++ (cell b 44 ++ cell c 10) → o ≡ result_ok r → MatchResult r (λ t. (t.first ≡ a) × (t.second ≡ b) × (t.third ≡ c)) (λ _. Corners a b c → ⊥) → LineRead bs o
unfolding line_of
line_read (Ok t) o bs a b c x y z whole is made =
    subst (LineRead bs) (sym is) (whole ∙ (λ i. cell (sym made.0 i) 44 ++ (cell (sym made.1 i) 44 ++ cell (sym made.2 i) 10)))
line_read (Err e) o bs a b c x y z whole is refused =
    let none : (t : Triangle) → bs ≡ line_of t → ⊥ =
    λ t same.
    let cut : Thirds bs (cell a 44) (cell b 44) (cell c 10) = record { whole = whole; one_long = length_cell a 44; two_long = length_cell b 44 } in
    let cells = cells_of _ _ _ _ t cut same in
    let p = same_cell a t.first 44 x (omega (arith, t.below.0)) cells.0 in
    let q = same_cell b t.second 44 y (omega (arith, t.below.1)) cells.1 in
    let r = same_cell c t.third 10 z (omega (arith, t.below.2)) cells.2 in
    refused (subst (λ x. x) (λ i. Corners (sym p i) (sym q i) (sym r i)) (t.below, t.differ)) in
    subst (LineRead bs) (sym is) none

-- Fewer bytes than 27 are no line.
pub read_past : (bs : List ℕ) (n : ℕ) → length bs < 27 * n + 27 → (t : Triangle) → take 27 (drop (27 * n) bs) ≡ line_of t → ⊥
read_past bs n short t e = omega (arith, ap length e, length-take 27 (drop (27 * n) bs), length-drop (27 * n) bs, length_line t)

-- The n-th whole chunk of 27 bytes.
pub chunk_at : (k n : ℕ) (bs d : List ℕ) → n < k → get_or (first_chunks 27 k bs) n d ≡ take 27 (drop (27 * n) bs)
chunk_at zero n bs d h = absurd (omega arith)
chunk_at (suc k) zero bs d h = refl
chunk_at (suc k) (suc n) bs d h =
    let next : 27 + 27 * n ≡ 27 * suc n = omega arith in
    chunk_at k n (drop 27 bs) d (omega arith) ∙ ap (take 27) (drop-drop (27 * n) 27 bs ∙ ap (λ j. drop j bs) next)
