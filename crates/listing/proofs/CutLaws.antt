-- Cutting at a separator is unique. Assumes nothing.
use Rattle.std.proofs.Common.{◌≡◌, ◌≢◌, ℕ, true, false, List, [], ◌∷◌, ◌++◌, length, Some, None, Option, eqb, sym, refl, ap, ◌∙◌, arith}
use Rattle.std.specs.List.{AllByRecursion, join_with_byte}
use Rattle.std.proofs.lemmas.List.Elements.{All-from_recursion}
use Rattle.std.proofs.lemmas.List.Splits.{slice_split_at, slice_split_none, length-slice_split, join_with_byte-slice_split}
use Rattle.std.proofs.lemmas.Bool.Decides.{nat_tests}
use Rattle.listing.specs.Cutting.{CutOnce, HasNone, cut, pieces}
use Rattle.listing.proofs.Cuts.{pieces_ended, pieces_whole}

unlike : (a b : ℕ) → a ≢ b → eqb a b ≡ false
unlike a b h = grind (arith, nat_tests)

alike : (a : ℕ) → eqb a a ≡ true
alike a = grind (arith, nat_tests)

unmarked : (mark : ℕ) (bs : List ℕ) → HasNone mark bs → AllByRecursion (λ b. eqb b mark ≡ false) bs
unmarked mark [] lacks = tt
unmarked mark (b ∷ bs) lacks = (unlike b mark lacks.0, unmarked mark bs lacks.1)

-- A piece with no mark, before a mark, is the first.
pub pieces_at : (mark : ℕ) (p r : List ℕ) → HasNone mark p → pieces mark (p ++ (mark ∷ r)) ≡ p ∷ pieces mark r
pieces_at mark p r lacks = slice_split_at (λ b. eqb b mark) p mark r (All-from_recursion (λ b. eqb b mark ≡ false) p (unmarked mark p lacks)) (alike mark)

-- Bytes with no mark are the one piece.
pub pieces_one : (mark : ℕ) (p : List ℕ) → HasNone mark p → pieces mark p ≡ p ∷ []
pieces_one mark p lacks = slice_split_none (λ b. eqb b mark) p (All-from_recursion (λ b. eqb b mark ≡ false) p (unmarked mark p lacks))

-- The pieces, joined, are the bytes.
pub joined : (mark : ℕ) (bs : List ℕ) → join_with_byte mark (pieces mark bs) ≡ bs
joined mark bs = join_with_byte-slice_split mark bs

head_of : (p q : List ℕ) (ps qs : List (List ℕ)) → p ∷ ps ≡ q ∷ qs → (p ≡ q) × (ps ≡ qs)
head_of p q ps qs e = (cc, cc)

-- There is always a piece.
pub some_piece : (mark : ℕ) (bs : List ℕ) → pieces mark bs ≢ []
some_piece mark bs none = omega (arith, length-slice_split (λ b. eqb b mark) bs, ap length none)

cut_found : (mark : ℕ) (p r : List ℕ) (found : Option (List ℕ × List ℕ)) → HasNone mark p → cut mark (p ++ (mark ∷ r)) ≡ found → found ≡ Some (p, r)
cut_found mark p r None lacks e =
    let one = sym (pieces_at mark p r lacks) ∙ pieces_whole mark (p ++ (mark ∷ r)) e in
    absurd (some_piece mark r (head_of p (p ++ (mark ∷ r)) (pieces mark r) [] one).1)
cut_found mark p r (Some (q, s)) lacks e =
    let one = head_of p q (pieces mark r) (pieces mark s) (sym (pieces_at mark p r lacks) ∙ pieces_ended mark (p ++ (mark ∷ r)) q s e) in
    let rests = sym (joined mark r) ∙ ap (join_with_byte mark) one.1 ∙ joined mark s in
    λ i. Some (sym one.0 i, sym rests i)

-- Bytes are cut at a mark that stands after a piece with none.
pub cut_of : (mark : ℕ) (p r : List ℕ) → HasNone mark p → cut mark (p ++ (mark ∷ r)) ≡ Some (p, r)
cut_of mark p r lacks = cut_found mark p r (cut mark (p ++ (mark ∷ r))) lacks refl

joined_more : (mark : ℕ) (p : List ℕ) (ps : List (List ℕ)) → ps ≢ [] → join_with_byte mark (p ∷ ps) ≡ p ++ (mark ∷ join_with_byte mark ps)
joined_more mark p [] some = absurd (some refl)
joined_more mark p (q ∷ ps) some = refl

-- What is cut is the piece, the mark and the rest.
pub cut_is : (mark : ℕ) (bs p r : List ℕ) → cut mark bs ≡ Some (p, r) → bs ≡ p ++ (mark ∷ r)
cut_is mark bs p r found =
    sym (joined mark bs)
    ∙ ap (join_with_byte mark) (pieces_ended mark bs p r found)
    ∙ joined_more mark p (pieces mark r) (some_piece mark r)
    ∙ ap (λ l. p ++ (mark ∷ l)) (joined mark r)

-- Pieces with no mark in them, joined by marks, come apart again.
pub pieces_joined : (mark : ℕ) (p : List ℕ) (ps : List (List ℕ)) → AllByRecursion (HasNone mark) (p ∷ ps) → pieces mark (join_with_byte mark (p ∷ ps)) ≡ p ∷ ps
pieces_joined mark p [] lack = pieces_one mark p lack.0
pieces_joined mark p (q ∷ ps) lack = pieces_at mark p (join_with_byte mark (q ∷ ps)) lack.0 ∙ ap (λ l. p ∷ l) (pieces_joined mark q ps lack.1)

pub some_same : {A : Type 0} (x y : A) → Some x ≡ Some y → x ≡ y
some_same x y e = cc

pair_same : (p q r s : List ℕ) → (let pr : List ℕ × List ℕ = (p, r) in let qs : List ℕ × List ℕ = (q, s) in pr ≡ qs) → (p ≡ q) × (r ≡ s)
pair_same p q r s e = (ap (λ x. x.0) e, ap (λ x. x.1) e)

pub cut_once : (mark : ℕ) → CutOnce mark
cut_once mark = record {
  first = λ p q r s lp lq e. pair_same p q r s (some_same (p, r) (q, s) (sym (cut_of mark p r lp) ∙ ap (cut mark) e ∙ cut_of mark q s lq));
  joined = joined mark;
  apart = pieces_joined mark;
}
