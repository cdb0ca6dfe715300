-- Triangles laid into any tray, one after the other and list after list. Assumes nothing.
use Rattle.std.proofs.Common.{◌≡◌, ℕ, zero, suc, ◌-◌, ◌<◌, ◌≤◌, List, [], ◌∷◌, ◌++◌, length, get_or, Result, Ok, Err, sym, refl, ap, ◌∙◌, inl, inr, append_assoc, arith, length-append}
use mathlib.Core.List.{map-append}
use lib.ListN.{length-map}
use Rattle.std.specs.Result.{IsOk}
use Rattle.cube.specs.Lists.{In}
use Rattle.tray.specs.Holding.{Held, KeepsRest, Lawful, Put, added_all}
use Rattle.tray.specs.declared.tray.Full.{Full}
use Rattle.tray.specs.declared.triangle.Triangle.{Triangle}
use Rattle.tray.proofs.Trays.{Laid, laid_more, laid_none}
use Rattle.drawing.specs.Laying.{corners, LaidIn}

-- What stands at a place of a list stands in it.
pub at_in : {A : Type 0} (xs : List A) (i : ℕ) (d : A) → i < length xs → In (get_or xs i d) xs
at_in [] i d h = absurd (omega arith)
at_in (x ∷ xs) zero d h = inl refl
at_in (x ∷ xs) (suc i) d h = inr (at_in xs i d (omega arith))

-- Two lists go in one after the other as one list does.
pub added_both : (h : Held) (ts us : List Triangle) → added_all (added_all h ts) us ≡ added_all h (ts ++ us)
added_both h ts us =
    let free : h.free - length ts - length us ≡ h.free - length (ts ++ us) = omega (arith, length-append ts us) in
    λ i. record { list = append_assoc h.list ts us i; free = free i }

module _ {S : Type 0} {holds : S → Held} {keeps : ℕ → S → S → Type 0} (lawful : Lawful holds keeps) where
  went : {s e : S} {us : List (ℕ × ℕ × ℕ)} (h : LaidIn holds keeps s e us) → Laid holds keeps s h.triangles e
  went h = record { fit = h.fit; list = h.list; rest = h.rest }

  -- Where nothing goes in, all stays as it was.
  pub lays_none : (s : S) → LaidIn holds keeps s s []
  lays_none s =
      let none = laid_none lawful s in
      record { triangles = []; corner = refl; fit = none.fit; list = none.list; rest = none.rest }

  -- Where there is room, one triangle more is not turned away.
  pub goes_in : (s m e : S) (us : List (ℕ × ℕ × ℕ)) (t : Triangle) (r : Result (Unit {0}) Full) → LaidIn holds keeps s m us
      → length us < (holds s).free → Put (holds m) t r (holds e) → IsOk r
  goes_in s m e us t (Ok done) h room put = refl
  goes_in s m e us t (Err full) h room put =
      absurd (omega (arith, put.0, sym (length-map h.triangles corners) ∙ ap length h.corner, ap (λ x. x.free) h.list))

  -- One triangle more, where there is room for it.
  pub lays_more : (s m e : S) (us : List (ℕ × ℕ × ℕ)) (t : Triangle) (r : Result (Unit {0}) Full) → LaidIn holds keeps s m us
      → length us < (holds s).free → Put (holds m) t r (holds e) → KeepsRest holds keeps m e → LaidIn holds keeps s e (us ++ corners t ∷ [])
  lays_more s m e us t r h room put kept =
      let ts = h.triangles in
      let fits : length ts < (holds s).free = omega (arith, sym (length-map ts corners) ∙ ap length h.corner) in
      let more = laid_more lawful s m e ts t r (went h) fits put kept in
      record {
        triangles = ts ++ t ∷ [];
        corner = map-append corners ts (t ∷ []) ∙ ap (λ l. l ++ corners t ∷ []) h.corner;
        fit = more.fit;
        list = more.list;
        rest = more.rest;
      }

  -- One list after another.
  pub laid_both : (s m e : S) (ts us : List Triangle) → Laid holds keeps s ts m → Laid holds keeps m us e → Laid holds keeps s (ts ++ us) e
  laid_both s m e ts us h k =
      let lengthened = length-append (holds m).list us in
      let longer : length (holds m).list ≤ length (holds e).list = omega (arith, lengthened, ap (λ x. length x.list) k.list) in
      record {
        fit = omega (arith, h.fit, k.fit, ap (λ x. x.free) h.list, length-append ts us);
        list = k.list ∙ ap (λ x. added_all x us) h.list ∙ added_both (holds s) ts us;
        rest = lawful.steps _ _ _ s m e longer (omega arith) h.rest k.rest;
      }
