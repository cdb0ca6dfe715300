-- Cutting bytes at a separator, piece by piece. Assumes nothing.
use Rattle.std.proofs.Common.{◌≡◌, ℕ, ◌+◌, ◌-◌, ◌≤◌, Bool, true, false, List, [], ◌∷◌, length, take, drop, Some, None, cond, ltb, sym, refl, ap, ◌∙◌, arith, length-drop}
use Rattle.std.proofs.Math.Bool.{not}
use Rattle.std.specs.Prelude.{◌==◌, position}
use Rattle.std.specs.Option.{option_map}
use Rattle.std.specs.List.{position_or_len, onto_first}
use Rattle.std.proofs.lemmas.List.{take_all}
use Rattle.std.proofs.lemmas.List.Splits.{slice_split_first}
use Rattle.std.proofs.lemmas.Bool.{ltb-true, ltb-false}
use Rattle.listing.specs.Cutting.{cut, pieces}

-- The test at which bytes are cut.
abbrev Marks : ℕ → ℕ → Bool
Marks mark b = b == mark

-- Where a first mark is found, the bytes are cut.
pub cut_at : (mark : ℕ) (bs : List ℕ) (end : ℕ) → position (λ b. b == mark) bs ≡ Some end → cut mark bs ≡ Some (take end bs, take (length bs - (end + 1)) (drop (end + 1) bs))
cut_at mark bs end found =
    let all = take_all (length bs - (end + 1)) (drop (end + 1) bs) (omega (arith, length-drop (end + 1) bs)) in
    ap (option_map (λ n. (take n bs, drop (n + 1) bs))) found ∙ ap (λ l. Some (take end bs, l)) (sym all)

-- Where no mark is found, they are not.
pub cut_none : (mark : ℕ) (bs : List ℕ) → position (λ b. b == mark) bs ≡ None → cut mark bs ≡ None
cut_none mark bs none = ap (option_map (λ n. (take n bs, drop (n + 1) bs))) none

cut_some : {A : Type 0} (f : ℕ → A) (b : Bool) (n : ℕ) (x : A) → option_map f (cond b (Some n) None) ≡ Some x → (b ≡ true) × (f n ≡ x)
cut_some f true n x found = (refl, cc)
cut_some f false n x found = absurd (cc)

cut_past : {A : Type 0} (f : ℕ → A) (b : Bool) (n : ℕ) → option_map f (cond b (Some n) None) ≡ None → b ≡ false
cut_past f true n none = absurd (cc)
cut_past f false n none = refl

-- A piece that a mark ends comes before the pieces of the rest.
pub pieces_ended : (mark : ℕ) (bs piece rest : List ℕ) → cut mark bs ≡ Some (piece, rest) → pieces mark bs ≡ piece ∷ pieces mark rest
pieces_ended mark bs piece rest found =
    let first = position_or_len (Marks mark) bs in
    let told = cut_some (λ n. (take n bs, drop (n + 1) bs)) (ltb first (length bs)) first (piece, rest) found in
    slice_split_first (Marks mark) bs 0 (ltb-true first (length bs) told.0)
    ∙ ap (λ p. p.0 ∷ pieces mark p.1) told.1

-- Where a first mark is found, the piece before it comes first.
pub pieces_before : (mark : ℕ) (bs : List ℕ) (end : ℕ) → position (λ b. b == mark) bs ≡ Some end → pieces mark bs ≡ take end bs ∷ pieces mark (take (length bs - (end + 1)) (drop (end + 1) bs))
pieces_before mark bs end found = pieces_ended mark bs _ _ (cut_at mark bs end found)

none_step : (b : Bool) (x : ℕ) (xs : List ℕ) (first : ℕ) (split : List (List ℕ)) → length (x ∷ xs) ≤ cond (not b) (1 + first) 0 → (length xs ≤ first → split ≡ xs ∷ []) → cond b ([] ∷ split) (onto_first x split) ≡ (x ∷ xs) ∷ []
none_step true x xs first split past rest = absurd (omega arith)
none_step false x xs first split past rest = ap (onto_first x) (rest (omega arith))

none_marks : (mark : ℕ) (bs : List ℕ) → length bs ≤ position_or_len (Marks mark) bs → pieces mark bs ≡ bs ∷ []
none_marks mark [] past = refl
none_marks mark (x ∷ xs) past = none_step (Marks mark x) x xs (position_or_len (Marks mark) xs) (pieces mark xs) past (none_marks mark xs)

-- Bytes with no mark are the one piece.
pub pieces_whole : (mark : ℕ) (bs : List ℕ) → cut mark bs ≡ None → pieces mark bs ≡ bs ∷ []
pieces_whole mark bs none =
    let first = position_or_len (Marks mark) bs in
    none_marks mark bs (ltb-false first (length bs) (cut_past (λ n. (take n bs, drop (n + 1) bs)) (ltb first (length bs)) first none))
