-- Readings of two kinds, under both letters: the level lies between them, and their link carries a corner. Assumes nothing.
use Rattle.std.proofs.Common.{◌≡◌, ℕ, ◌-◌, ◌*◌, ◌<◌, ◌≢◌, Bool, true, false, not, T, refl, sym, ap, ap₂, subst, inl, inr, arith}
use Rattle.std.proofs.lemmas.Bool.Decides.{nat_tests}
use Rattle.scan.specs.Meaning.{Meaning}
use Rattle.surface.specs.Joined.{crosses}
use Rattle.drawing.specs.Solids.{solid_by, is_solid, solid_answer, solids_of}
use Rattle.drawing.specs.declared.letter.Letter.{Letter}
use Rattle.drawing.specs.declared.letter.Letter.TheVariants.{H, L}
use Rattle.drawing.specs.declared.letter.SolidTest.{SolidTest}
use Rattle.corner.specs.Levels.{twice_level, Crosses}
use Rattle.corner.specs.Placing.{EndsRead}
use Rattle.corner.specs.declared.ends.Ends.{Ends}

-- Between a solid and a hollow reading lies the level.
crossed_by : (l : Letter) (t low high : ℕ) → solid_by l t low ≢ solid_by l t high → Crosses (2 * t - 1) low high
crossed_by H t low high parted = grind (arith, nat_tests)
crossed_by L t low high parted = grind (arith, nat_tests)

pub crossed : (t : SolidTest) (low high : ℕ) → is_solid t low ≢ is_solid t high → Crosses (twice_level t) low high
crossed t low high parted = crossed_by t.letter t.threshold low high parted

-- So the threshold is not 0.
pub above : (t : SolidTest) (low high : ℕ) → is_solid t low ≢ is_solid t high → 0 < t.threshold
above t low high parted = elim (crossed t low high parted) [ inl rising ↦ omega arith | inr falling ↦ omega arith ]

-- Two kinds are told apart by a test, which the ends of a link that carries a corner pass.
abbrev differs : Bool → Bool → Bool
differs a b = elim a [ true ↦ not b | false ↦ b ]

unlike : (a b : Bool) → a ≢ b → T (differs a b)
unlike true true h = absurd (h refl)
unlike true false h = tt
unlike false true h = tt
unlike false false h = absurd (h refl)

like : (a b : Bool) → a ≡ b → T (differs a b) → ⊥
like true true e h = h
like true false e h = cc
like false true e h = cc
like false false e h = h

module _ (t : SolidTest) (m : Meaning) (n : ℕ) (e : Ends) (read : EndsRead m n e) where
  -- Its readings are the kinds of its ends.
  ends_differ : differs (is_solid t e.low) (is_solid t e.high) ≡ crosses (solids_of t m) e.link
  ends_differ = sym (ap₂ differs (ap (solid_answer t) read.lower) (ap (solid_answer t) read.upper))

  pub carries : is_solid t e.low ≢ is_solid t e.high → T (crosses (solids_of t m) e.link)
  carries parted = subst T ends_differ (unlike (is_solid t e.low) (is_solid t e.high) parted)

  pub bare : is_solid t e.low ≡ is_solid t e.high → T (crosses (solids_of t m) e.link) → ⊥
  bare alike carried = like (is_solid t e.low) (is_solid t e.high) alike (subst T (sym ends_differ) carried)
