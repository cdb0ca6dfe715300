-- What the cubes of a scan lay by a way of calling: the same triangles, or the same turned over. Assumes nothing.
use Rattle.std.proofs.Common.{◌≡◌, ℕ, zero, suc, ◌<◌, ◌≤◌, Bool, true, not, ltb, leb, List, [], ◌∷◌, ◌++◌, map, is_ok, Ok, Err, sym, refl, ap, ◌∙◌, ap₂, ⊎_elim, arith, lit<}
use mathlib.Core.List.{map-append}
use Rattle.std.proofs.lemmas.Bool.{cases_lt, lt-ltb, le-ltb, lt-leb, le-leb}
use Rattle.grid.specs.declared.sides.Sides.{Sides}
use Rattle.grid.specs.declared.voxel.Voxel.{Voxel}
use Rattle.cube.specs.Cube.{exchange}
use Rattle.cube.specs.Pairs.{swap}
use Rattle.cube.specs.Triangles.{triangles}
use Rattle.cube.specs.declared.pair.Pair.{Pair}
use Rattle.scan.specs.Meaning.{Answer, Meaning}
use Rattle.surface.specs.Places.{kinds_at, voxel_at, low_of}
use Rattle.surface.specs.Laid.{numbered, laid_at, laid, turn_over}
use Rattle.surface.proofs.Mirror.{mirrored_at}
use Rattle.drawing.specs.Laying.{Readable}
use Rattle.drawing.specs.Solids.{solid_by, solid_answer, solids_of, other, exchanged as exchange_test}
use Rattle.drawing.specs.declared.letter.Letter.{Letter}
use Rattle.drawing.specs.declared.letter.Letter.TheVariants.{H, L}
use Rattle.drawing.specs.declared.letter.SolidTest.{SolidTest}
use Rattle.session.specs.Ways.{Way, again, exchanged, corners_by}

-- By the one way a test, a pair and a kind stay; by the other the letter is the other one, the pair is swapped, and a
-- solid voxel is hollow.
abbrev pub test_by : Way → SolidTest → SolidTest
test_by again t = t
test_by exchanged t = exchange_test t

abbrev pub pair_by : Way → Pair → Pair
pair_by again p = p
pair_by exchanged p = swap p

abbrev pub kind_by : Way → Bool → Bool
kind_by again b = b
kind_by exchanged b = not b

-- A number is below another just where the other is not at most it.
opposite : (a b : ℕ) → (ltb a b ≡ not (leb b a)) × (leb b a ≡ not (ltb a b))
opposite a b =
    ⊎_elim
    (λ (h : a < b). (lt-ltb a b h ∙ sym (ap not (lt-leb b a h)), lt-leb b a h ∙ sym (ap not (lt-ltb a b h))))
    (λ (h : b ≤ a). (le-ltb a b h ∙ sym (ap not (le-leb b a h)), le-leb b a h ∙ sym (ap not (le-ltb a b h))))
    (cases_lt a b)

-- Under the other letter a reading is of the other kind.
other_kind : (l : Letter) (threshold reading : ℕ) → solid_by (other l) threshold reading ≡ not (solid_by l threshold reading)
other_kind H threshold reading = (opposite reading threshold).0
other_kind L threshold reading = (opposite reading threshold).1

-- So the kind that a reading makes is the one by the way; a fault has no other kind.
answer_by : (way : Way) (t : SolidTest) (a : Answer) → is_ok a ≡ true → solid_answer (test_by way t) a ≡ kind_by way (solid_answer t a)
answer_by again t a ok = refl
answer_by exchanged t (Ok reading) ok = other_kind t.letter t.threshold reading
answer_by exchanged t (Err f) ok = let z : ◌≡◌ {A = ℕ} 0 1 = cc in absurd (omega arith)

-- The kind of a voxel that has a reading, by a way.
pub solid_by_way : (way : Way) (t : SolidTest) (m : Meaning) (v : Voxel) → is_ok (m.at v) ≡ true
    → solids_of (test_by way t) m v ≡ kind_by way (solids_of t m v)
solid_by_way way t m v = answer_by way t (m.at v)

module _ (m : Meaning) (s : Sides) (p : Pair) (t : SolidTest) where
  -- The kinds of a cube whose voxels all have a reading.
  exchanged_kinds : (low : Voxel) → Readable m low → kinds_at (solids_of (exchange_test t) m) low ≡ exchange (kinds_at (solids_of t m) low)
  exchanged_kinds low read =
      let at : (j : ℕ) → j < 8 → solids_of (exchange_test t) m (voxel_at low j) ≡ not (solids_of t m (voxel_at low j))
      = λ j below. solid_by_way exchanged t m (voxel_at low j) (read j below) in
      λ i. record {
        v0 = at 0 (lit< tt) i;
        v1 = at 1 (lit< tt) i;
        v2 = at 2 (lit< tt) i;
        v3 = at 3 (lit< tt) i;
        v4 = at 4 (lit< tt) i;
        v5 = at 5 (lit< tt) i;
        v6 = at 6 (lit< tt) i;
        v7 = at 7 (lit< tt) i;
      }

  -- By the first way a list of triangles stays, and by the other each is turned over.
  unturned : (ts : List (ℕ × ℕ × ℕ)) → ts ≡ map (corners_by again) ts
  unturned [] = refl
  unturned (u ∷ us) = ap (λ rest. u ∷ rest) (unturned us)

  turned : (ts : List (ℕ × ℕ × ℕ)) → map turn_over ts ≡ map (corners_by exchanged) ts
  turned [] = refl
  turned (u ∷ us) = ap (λ rest. turn_over u ∷ rest) (turned us)

  -- What one readable cube lays.
  pub cube_by : (way : Way) (low : Voxel) → Readable m low
      → laid_at s (pair_by way p) (solids_of (test_by way t) m) low ≡ map (corners_by way) (laid_at s p (solids_of t m) low)
  cube_by again low read = unturned (laid_at s p (solids_of t m) low)
  cube_by exchanged low read =
      ap (λ k. map (numbered s low) (triangles (swap p) k)) (exchanged_kinds low read)
      ∙ mirrored_at s p (solids_of t m) low
      ∙ turned (laid_at s p (solids_of t m) low)

  -- What the first n cubes lay, if they are readable.
  pub lays_by : (way : Way) (n : ℕ) → ((c : ℕ) → c < n → Readable m (low_of s c))
      → laid s (pair_by way p) (solids_of (test_by way t) m) n ≡ map (corners_by way) (laid s p (solids_of t m) n)
  lays_by way zero read = refl
  lays_by way (suc n) read =
      ap₂ (λ ts us. ts ++ us) (lays_by way n (λ c below. read c (omega arith))) (cube_by way (low_of s n) (read n (omega arith)))
      ∙ sym (map-append (corners_by way) (laid s p (solids_of t m) n) (laid_at s p (solids_of t m) (low_of s n)))
