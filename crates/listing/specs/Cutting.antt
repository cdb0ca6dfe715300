-- Bytes cut at a separator. Assumes nothing.
use Rattle.std.specs.Prelude.{◌≡◌, ◌≢◌, ℕ, ◌+◌, List, [], ◌∷◌, ◌++◌, take, drop, None, Some, Option, ◌==◌, position}
use Rattle.std.specs.Borrow.{Bor}
use Rattle.std.specs.List.{AllByRecursion, join_with_byte, slice_split}
use Rattle.std.specs.Option.{option_map}
use Rattle.listing.specs.declared.pieces.Pieces.{Pieces}

-- The bytes before the first mark and those after it, if there is a mark.
abbrev pub cut : ℕ → List ℕ → Option (List ℕ × List ℕ)
cut mark bs = option_map (λ end. (take end bs, drop (end + 1) bs)) (position (λ b. b == mark) bs)

-- The pieces of bytes between the marks that part them, empty ones too: one more than there are marks.
abbrev pub pieces : ℕ → List ℕ → List (List ℕ)
pieces mark bs = slice_split (λ b. b == mark) bs

-- The bytes of a rest, if there is one.
abbrev pub bytes_of_rest : Option (Bor (List ℕ)) → List ℕ
bytes_of_rest None = []
bytes_of_rest (Some bs) = bs.now

-- The pieces of a rest, if there is one.
abbrev pub pieces_of_rest : ℕ → Option (Bor (List ℕ)) → List (List ℕ)
pieces_of_rest mark None = []
pieces_of_rest mark (Some bs) = pieces mark bs.now

-- The bytes that a cursor has still to cut, and their pieces.
abbrev pub unread : Pieces → List ℕ
unread p = bytes_of_rest p.rest

abbrev pub left : Pieces → List (List ℕ)
left p = pieces_of_rest p.mark p.rest

-- No mark stands in the bytes.
abbrev pub HasNone : ℕ → List ℕ → Type 0
HasNone mark bs = AllByRecursion (λ b. b ≢ mark) bs

-- Cutting at the first mark is unique, and so is cutting at all marks: what is joined by them, and has none inside, comes apart again.
pub record CutOnce (mark : ℕ) : Type 0 where
  pub first : (p q r s : List ℕ) → HasNone mark p → HasNone mark q → p ++ (mark ∷ r) ≡ q ++ (mark ∷ s) → (p ≡ q) × (r ≡ s)
  pub joined : (bs : List ℕ) → join_with_byte mark (pieces mark bs) ≡ bs
  pub apart : (p : List ℕ) (ps : List (List ℕ)) → AllByRecursion (HasNone mark) (p ∷ ps) → pieces mark (join_with_byte mark (p ∷ ps)) ≡ p ∷ ps
