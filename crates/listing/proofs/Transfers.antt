-- What is taken from a reader and what comes into a writer, step by step. Assumes nothing.
use Rattle.std.proofs.Common.{◌≡◌, ℕ, ◌+◌, ◌-◌, ◌<◌, ◌≤◌, List, ◌++◌, length, take, drop, Option, sym, ap, ◌∙◌, subst, arith, append_assoc, length-take-le, take-append-drop}
use borrow.Rule.Slice.PartMut.{put_mid, post_of}
use Rattle.std.proofs.lemmas.List.{take-append-le, take_rest}
use Rattle.std.proofs.Math.Seq.{take-append-add}
use Rattle.std.proofs.KnownBytes.{Appends-trans, Consumes-kept, Consumes-trans}
use Rattle.std.specs.Io.KnownBytes.{Appends, Consumes, Keeps}
use Rattle.listing.specs.Streams.{TakesFewer}

-- The front of a list, and n elements more of what was put after it.
take_more : (a k n : ℕ) (xs ys : List ℕ) → a ≤ length xs → n ≤ length ys → take (a + n) (put_mid a k xs ys) ≡ take a xs ++ take n ys
take_more a k n xs ys within fits =
    let front = take a xs in
    let same : a + n ≡ length front + n = omega (arith, length-take-le a xs within) in
    ap (λ m. take m (put_mid a k xs ys)) same ∙ take-append-add front (ys ++ post_of a k xs) n ∙ ap (λ l. front ++ l) (take-append-le n ys (post_of a k xs) fits)

-- A buffer is read into after its front: what is taken comes behind what was taken.
pub more_taken : (given between left : Option (List ℕ)) (a k n : ℕ) (xs ys : List ℕ) → a ≤ length xs → n ≤ length ys
    → Consumes given between (take a xs) → Consumes between left (take n ys) → Consumes given left (take (a + n) (put_mid a k xs ys))
more_taken given between left a k n xs ys within fits first more =
    subst (Consumes given left) (sym (take_more a k n xs ys within fits)) (Consumes-trans given between left (take a xs) (take n ys) first more)

-- A read that fails takes no more than was taken.
pub no_more_taken : (given between left : Option (List ℕ)) (room a : ℕ) (xs : List ℕ) → a < room → a ≤ length xs
    → Consumes given between (take a xs) → Keeps between left → TakesFewer room given left
no_more_taken given between left room a xs small within first kept = record {
  taken = take a xs;
  few = omega (arith, length-take-le a xs within);
  parts = Consumes-kept given between left (take a xs) first kept;
}

-- Some of the rest is written behind the front.
pub more_written : (held between holds : Option (List ℕ)) (output front rest : List ℕ) (n : ℕ) → output ≡ front ++ rest
    → Appends held between front → Appends between holds (take n rest)
    → (more : List ℕ) × (output ≡ more ++ take (length rest - n) (drop n rest)) × Appends held holds more
more_written held between holds output front rest n parts first more = (
  front ++ take n rest,
  parts ∙ ap (λ l. front ++ l) (sym (take-append-drop n rest)) ∙ sym (append_assoc front (take n rest) (drop n rest)) ∙ ap (λ l. (front ++ take n rest) ++ l) (sym (take_rest rest n)),
  Appends-trans held between holds front (take n rest) first more,
)
