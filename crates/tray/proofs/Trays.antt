-- What putting triangles into any tray, one after the other, leaves. Assumes nothing.
use Rattle.std.proofs.Common.{◌≡◌, ℕ, ◌-◌, ◌<◌, ◌≤◌, List, [], ◌∷◌, ◌++◌, length, Ok, Err, Result, sym, ap, ◌∙◌, append_assoc, append-nil, arith, length-append}
use Rattle.std.proofs.lemmas.List.{length_push}
use Rattle.tray.specs.declared.tray.Full.{Full}
use Rattle.tray.specs.declared.triangle.Triangle.{Triangle}
use Rattle.tray.specs.Holding.{Held, KeepsRest, Lawful, Put, added, added_all, emptied, places}

pub went_in : (before after : Held) (t : Triangle) (r : Result (Unit {0}) Full) → 0 < before.free → Put before t r after → after ≡ added before t
went_in before after t (Ok done) some h = h.1
went_in before after t (Err full) some h = absurd (omega (arith, h.0))

-- Putting in none, and one more.
pub added_none : (h : Held) → h ≡ added_all h []
added_none h = let free : h.free ≡ h.free - 0 = omega arith in λ i. record { list = sym (append-nil h.list) i; free = free i }

pub added_more : (h : Held) (ts : List Triangle) (t : Triangle) → added (added_all h ts) t ≡ added_all h (ts ++ (t ∷ []))
added_more h ts t =
    let free : h.free - length ts - 1 ≡ h.free - length (ts ++ (t ∷ [])) = omega (arith, length_push ts t) in
    λ i. record { list = append_assoc h.list ts (t ∷ []) i; free = free i }

-- No call changes how many places a tray has.
pub places_all : (h : Held) (ts : List Triangle) → length ts ≤ h.free → places (added_all h ts) ≡ places h
places_all h ts fit = omega (arith, length-append h.list ts)

pub places_emptied : (h : Held) → places (emptied h) ≡ places h
places_emptied h = omega arith

-- The triangles went in from one state to another, and nothing past them changed.
pub record Laid {S : Type 0} (holds : S → Held) (keeps : ℕ → S → S → Type 0) (before : S) (ts : List Triangle) (after : S) : Type 0 where
  pub fit : length ts ≤ (holds before).free
  pub list : holds after ≡ added_all (holds before) ts
  pub rest : KeepsRest holds keeps before after

module _ {S : Type 0} {holds : S → Held} {keeps : ℕ → S → S → Type 0} (lawful : Lawful holds keeps) where
  pub laid_none : (s : S) → Laid holds keeps s [] s
  laid_none s = record { fit = omega arith; list = added_none (holds s); rest = lawful.stays _ s }

  -- Where fewer went in than there were free places, one more does.
  pub laid_more : (s m e : S) (ts : List Triangle) (t : Triangle) (r : Result (Unit {0}) Full) → Laid holds keeps s ts m → length ts < (holds s).free → Put (holds m) t r (holds e) → KeepsRest holds keeps m e → Laid holds keeps s (ts ++ (t ∷ [])) e
  laid_more s m e ts t r h room put kept =
      let free : 0 < (holds m).free = omega (arith, ap (λ x. x.free) h.list) in
      let went = went_in (holds m) (holds e) t r free put in
      let longer : length (holds m).list ≤ length (holds e).list = omega (arith, ap (λ x. length x.list) went, length_push (holds m).list t) in
      record {
        fit = omega (arith, length_push ts t);
        list = went ∙ ap (λ x. added x t) h.list ∙ added_more (holds s) ts t;
        rest = lawful.steps _ _ _ s m e longer (omega arith) h.rest kept;
      }
