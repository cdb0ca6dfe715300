-- Trays that are alike stay so when as much goes into both, and when both are emptied. Assumes nothing.
use Rattle.std.proofs.Common.{◌≡◌, ℕ, ◌<◌, List, [], ◌∷◌, ◌++◌, map, length, set, sym, refl, ap, ◌∙◌, subst, ap₂, ⊎_elim, arith, length-append, length-set}
use mathlib.Core.List.{map-append}
use lib.ListN.{length-map}
use Rattle.std.proofs.lemmas.List.{get_or-set_same, get_or-set_other}
use Rattle.std.proofs.lemmas.Bool.{cases_eq}
use Rattle.tray.specs.Holding.{Held, added_all, emptied}
use Rattle.tray.specs.declared.triangle.Triangle.{Triangle}
use Rattle.tray.proofs.Alike.{same_triangle}
use Rattle.drawing.specs.Laying.{corners}
use Rattle.session.specs.Worlds.{tray_at}
use Rattle.session.specs.Ways.{Way, again, exchanged, corners_by, TrayBy, TraysBy}

-- Triangles are the same by a way where their corners are.
abbrev pub LaidBy : Way → List Triangle → List Triangle → Type 0
LaidBy way ts us = map corners us ≡ map (corners_by way) (map corners ts)

-- There are as many.
pub as_long : (way : Way) (ts us : List Triangle) → LaidBy way ts us → length us ≡ length ts
as_long way ts us e =
    sym (length-map us corners) ∙ ap length e ∙ length-map (map corners ts) (corners_by way) ∙ length-map ts corners

-- By the first way they are the same triangles.
same_corners : (t u : Triangle) → corners u ≡ corners t → u ≡ t
same_corners t u e = same_triangle u t (ap (λ (c : ℕ × ℕ × ℕ). c.0) e) (ap (λ (c : ℕ × ℕ × ℕ). c.1) e) (ap (λ (c : ℕ × ℕ × ℕ). c.2) e)

same_triangles : (ts us : List Triangle) → LaidBy again ts us → us ≡ ts
same_triangles [] [] e = refl
same_triangles [] (u ∷ us) e = absurd (omega (arith, ap length e))
same_triangles (t ∷ ts) [] e = absurd (omega (arith, ap length e))
same_triangles (t ∷ ts) (u ∷ us) e =
    let head : corners u ≡ corners t = cc in
    let tail : LaidBy again ts us = cc in
    ap₂ (λ v vs. v ∷ vs) (same_corners t u head) (same_triangles ts us tail)

-- More laid alike, after what was laid alike, is laid alike.
pub more_alike : (way : Way) (ts us more more' : List Triangle)
    → LaidBy way ts us → LaidBy way more more' → LaidBy way (ts ++ more) (us ++ more')
more_alike way ts us more more' e f =
    map-append corners us more'
    ∙ ap₂ (λ a b. a ++ b) e f
    ∙ sym (ap (map (corners_by way)) (map-append corners ts more) ∙ map-append (corners_by way) (map corners ts) (map corners more))

-- Trays alike have as many places free.
pub same_free : (way : Way) (h h' : Held) → TrayBy way h h' → h'.free ≡ h.free
same_free again h h' e = ap (λ (g : Held). g.free) e
same_free exchanged h h' e = e.1

-- They stay alike when triangles laid alike go in, and when they are emptied.
pub added_alike : (way : Way) (h h' : Held) (ts us : List Triangle)
    → TrayBy way h h' → LaidBy way ts us → TrayBy way (added_all h ts) (added_all h' us)
added_alike again h h' ts us e l = ap₂ added_all e (same_triangles ts us l)
added_alike exchanged h h' ts us e l =
    let long = as_long exchanged ts us l in
    (simp length-append (omega arith), omega arith)

emptied_alike : (way : Way) (h h' : Held) → TrayBy way h h' → TrayBy way (emptied h) (emptied h')
emptied_alike again h h' e = ap emptied e
emptied_alike exchanged h h' e = (refl, omega arith)

-- With one tray changed alike, all trays are alike.
pub set_alike : (way : Way) (hs hs' : List Held) (t : ℕ) (g g' : Held) → t < length hs → TraysBy way hs hs' → TrayBy way g g'
    → TraysBy way (set hs t g) (set hs' t g')
set_alike way hs hs' t g g' there like e =
    let many = like.many in
    let there' : t < length hs' = omega arith in
    let none : Held = record { list = []; free = 0 } in
    record {
      many = simp length-set many;
      each =
          λ j. ⊎_elim
          (λ (same : j ≡ t). subst (λ j. TrayBy way (tray_at (set hs t g) j) (tray_at (set hs' t g') j)) (sym same)
          (rw (get_or-set_same hs t g none there, get_or-set_same hs' t g' none there') e))
          (λ (other : j ≡ t → ⊥). rw (get_or-set_other hs t j g none other, get_or-set_other hs' t j g' none other) (like.each j))
          (cases_eq j t);
    }

-- One tray of each is emptied.
pub empty_alike : (way : Way) (hs hs' : List Held) (t : ℕ) → t < length hs → TraysBy way hs hs'
    → TraysBy way (set hs t (emptied (tray_at hs t))) (set hs' t (emptied (tray_at hs' t)))
empty_alike way hs hs' t there like =
    set_alike way hs hs' t (emptied (tray_at hs t)) (emptied (tray_at hs' t)) there like
    (emptied_alike way (tray_at hs t) (tray_at hs' t) (like.each t))
