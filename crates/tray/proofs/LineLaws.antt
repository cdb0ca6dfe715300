-- The laws of a triangle's line: each triangle has one line of 27 bytes, and each line is of one triangle. Assumes nothing.
use Rattle.std.proofs.Common.{◌≡◌, ℕ, ◌^◌, ◌<◌, List, [], ◌∷◌, ◌++◌, length, take, drop, Some, None, Option, sym, refl, ap, ◌∙◌, append_assoc, append-nil, arith, length-append}
use mathlib.Core.List.{List-discrete}
use native.Mathlib.Decide.{ℕ_discrete}
use Rattle.std.proofs.lemmas.List.{take_at, drop_at, drop-drop}
use Rattle.tray.specs.declared.triangle.Triangle.{Triangle}
use Rattle.tray.specs.Corners.{Corners, corners?}
use Rattle.tray.specs.Decimal.{digits, value_after}
use Rattle.tray.specs.Lines.{cell, line_of, digits_at, decided, triangle_with, kept, confirmed, spelled}
use Rattle.tray.proofs.Alike.{same_triangle}
use Rattle.tray.proofs.Decimals.{length_digits, value_digits}

pub length_cell : (n mark : ℕ) → length (cell n mark) ≡ 9
unfolding cell
length_cell n mark = length-append (digits 8 n) (mark ∷ []) ∙ omega (arith, length_digits 8 n)

pub length_line : (t : Triangle) → length (line_of t) ≡ 27
unfolding line_of
length_line t =
    length-append (cell t.first 44) _
    ∙ omega (arith, length-append (cell t.second 44) (cell t.third 10), length_cell t.first 44, length_cell t.second 44, length_cell t.third 10)

-- A line is cut into its three cells.
module _ (t : Triangle) where
  rest_one : drop 9 (line_of t) ≡ cell t.second 44 ++ cell t.third 10
  unfolding line_of
  rest_one = drop_at (cell t.first 44) _ 9 (length_cell t.first 44)

  pub third_cell : drop 18 (line_of t) ≡ cell t.third 10
  third_cell = sym (drop-drop 9 9 (line_of t)) ∙ ap (drop 9) rest_one ∙ drop_at (cell t.second 44) _ 9 (length_cell t.second 44)

number_front : (n mark : ℕ) (bs more : List ℕ) → n < 10 ^ 8 → bs ≡ cell n mark ++ more → value_after 0 (take 8 bs) ≡ n
unfolding cell
number_front n mark bs more small e =
    ap (λ l. value_after 0 (take 8 l)) (e ∙ append_assoc (digits 8 n) (mark ∷ []) more)
    ∙ ap (value_after 0) (take_at (digits 8 n) _ 8 (length_digits 8 n))
    ∙ value_digits 8 n small

module _ (t : Triangle) where
  first_number : digits_at 0 (line_of t) ≡ t.first
  unfolding line_of
  first_number = number_front t.first 44 (line_of t) _ (omega (arith, t.below.0)) refl

  second_number : digits_at 9 (line_of t) ≡ t.second
  second_number = number_front t.second 44 (drop 9 (line_of t)) _ (omega (arith, t.below.1)) (rest_one t)

  third_number : digits_at 18 (line_of t) ≡ t.third
  third_number = number_front t.third 10 (drop 18 (line_of t)) [] (omega (arith, t.below.2)) (third_cell t ∙ sym (append-nil _))

-- Two triangles with one line are one.
pub same_line : (s t : Triangle) → line_of s ≡ line_of t → s ≡ t
same_line s t e =
    same_triangle s t
    (sym (first_number s) ∙ ap (digits_at 0) e ∙ first_number t)
    (sym (second_number s) ∙ ap (digits_at 9) e ∙ second_number t)
    (sym (third_number s) ∙ ap (digits_at 18) e ∙ third_number t)

decided_corners : {a b c : ℕ} (d : Dec (Corners a b c)) (t : Triangle) → t.first ≡ a → t.second ≡ b → t.third ≡ c → Corners a b c → decided d ≡ Some t
unfolding decided
decided_corners (yes h) t p q r k = ap Some (same_triangle _ t (sym p) (sym q) (sym r))
decided_corners (no h) t p q r k = absurd (h k)

with_corners : (a b c : ℕ) (t : Triangle) → a ≡ t.first → b ≡ t.second → c ≡ t.third → triangle_with a b c ≡ Some t
unfolding triangle_with
with_corners a b c t p q r =
    (λ i. triangle_with (p i) (q i) (r i))
    ∙ decided_corners (corners? t.first t.second t.third) t refl refl refl (t.below, t.differ)

kept_line : {bs : List ℕ} (t : Triangle) (d : Dec (bs ≡ line_of t)) → bs ≡ line_of t → kept t d ≡ Some t
unfolding kept
kept_line t (yes h) e = refl
kept_line t (no h) e = absurd (h e)

-- Reading what is written: the line of a triangle spells that triangle.
pub spelled_line : (t : Triangle) → spelled (line_of t) ≡ Some t
unfolding spelled confirmed
spelled_line t =
    ap (confirmed (line_of t)) (with_corners _ _ _ t (first_number t) (second_number t) (third_number t))
    ∙ kept_line t (List-discrete ℕ_discrete (line_of t) (line_of t)) refl

kept_is : {bs : List ℕ} (s t : Triangle) (d : Dec (bs ≡ line_of s)) → kept s d ≡ Some t → bs ≡ line_of t
unfolding kept
kept_is s t (yes h) e = let same : s ≡ t = cc in h ∙ ap line_of same
kept_is s t (no h) e = let z : ◌≡◌ {A = ℕ} 0 1 = cc in absurd (omega arith)

confirmed_is : (bs : List ℕ) (o : Option Triangle) (t : Triangle) → confirmed bs o ≡ Some t → bs ≡ line_of t
unfolding confirmed
confirmed_is bs None t e = let z : ◌≡◌ {A = ℕ} 0 1 = cc in absurd (omega arith)
confirmed_is bs (Some s) t e = kept_is s t (List-discrete ℕ_discrete bs (line_of s)) e
