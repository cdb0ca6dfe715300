-- Two draws with one budget, of drawings and into trays that are alike, answer the same and leave both alike. Assumes nothing.
use Rattle.std.proofs.Common.{◌≡◌, ℕ, ◌+◌, ◌<◌, List, [], ◌++◌, map, Ok, Err, Result, sym, refl, ap, ◌∙◌, subst, ap₂, inl, inr, append-nil, arith}
use mathlib.Core.List.{map-append}
use Rattle.std.proofs.lemmas.List.{append_cancel_left}
use Rattle.grid.specs.Cubes.{cube_count}
use Rattle.scan.specs.Meaning.{Meaning}
use Rattle.surface.specs.Places.{low_of}
use Rattle.tray.specs.Holding.{Held}
use Rattle.tray.specs.declared.triangle.Triangle.{Triangle}
use Rattle.drawing.specs.Draws.{Ends, Drawn, Draws}
use Rattle.drawing.specs.Laying.{corners, surface, Readable}
use Rattle.drawing.specs.declared.drawing.Drawing.{Drawing}
use Rattle.drawing.specs.declared.progress.DrawRefusal.{DrawRefusal}
use Rattle.drawing.specs.declared.progress.DrawRefusal.TheVariants.{OtherSides, ZeroBudget}
use Rattle.drawing.specs.declared.progress.Progress.{Progress}
use Rattle.session.specs.Ways.{Way, corners_by, TrayBy}
use Rattle.session.proofs.Levels.{Level, compare}
use Rattle.session.proofs.Lays.{test_by, pair_by}
use Rattle.session.proofs.Likewise.{Likewise, carried, surface_like}
use Rattle.session.proofs.Drawn.{read_to, same_drawn, ends_alike}
use Rattle.session.proofs.Trays.{LaidBy, as_long, same_free, added_alike}

-- What is told of two draws: the answers, the drawings and trays after them, and what the trays then hold more.
pub record DrawsAlike (way : Way) (m : Meaning) (h h' : Held) (r r' : Result Progress DrawRefusal) (e e' : Drawing) (g g' : Held)
    : Type 0 where
  pub told : r' ≡ r
  pub drawing : Likewise way m e e'
  pub tray : TrayBy way g g'
  pub laid : (more more' : List Triangle) → g.list ≡ h.list ++ more → g'.list ≡ h'.list ++ more' → LaidBy way more more'

-- The law of a draw, as what is asked one after the other.
abbrev InOrder : Meaning → ℕ → Drawing → Held → Result Progress DrawRefusal → Drawing → Held → Type 0
InOrder k budget d h r e g =
    Level (d.sides ≡ k.sides)
    (Level (budget ≡ 0) ((r ≡ Err ZeroBudget) × (e ≡ d) × (g ≡ h)) ((p : Progress) × (r ≡ Ok p) × Drawn k budget d h p e g))
    ((r ≡ Err OtherSides) × (e ≡ d) × (g ≡ h))

-- Every draw went that way.
in_order : (k : Meaning) (budget : ℕ) (d : Drawing) (h : Held) (r : Result Progress DrawRefusal) (e : Drawing) (g : Held)
    → Draws k budget d h r e g → InOrder k budget d h r e g
in_order k budget d h (Ok p) e g o = inl (o.0, inr (o.1, (p, refl, o.2)))
in_order k budget d h (Err OtherSides) e g o = inr (o.0, (refl, o.1, o.2))
in_order k budget d h (Err ZeroBudget) e g o = inl (o.0, inl (o.1, (refl, o.2, o.3)))

-- What a tray holds more is told by the tray before and after.
more_is : (h g : Held) (ts more : List Triangle) → g.list ≡ h.list ++ ts → g.list ≡ h.list ++ more → more ≡ ts
more_is h g ts more e put = append_cancel_left h.list more ts (sym put ∙ e)

module _ (way : Way) (m : Meaning) (budget : ℕ) (d d' : Drawing) (h h' : Held) (like : Likewise way m d d') (tray : TrayBy way h h')
    (e e' : Drawing) (g g' : Held) where
  -- Two draws that change nothing.
  none_alike : (r r' : Result Progress DrawRefusal) (f : DrawRefusal)
      → (r ≡ Err f) × (e ≡ d) × (g ≡ h) → (r' ≡ Err f) × (e' ≡ d') × (g' ≡ h')
      → DrawsAlike way m h h' r r' e e' g g'
  none_alike r r' f a b =
      let none : (h g : Held) (more : List Triangle) → g ≡ h → g.list ≡ h.list ++ more → more ≡ []
      = λ h g more same put. more_is h g [] more (ap (λ (x : Held). x.list) same ∙ sym (append-nil h.list)) put in
      record {
        told = b.0 ∙ sym a.0;
        drawing = carried (Likewise way m) a.1 b.1 like;
        tray = carried (TrayBy way) a.2 b.2 tray;
        laid =
            λ more more' put put'. ap (map corners) (none h' g' more' b.2 put')
            ∙ sym (ap (λ ts. map (corners_by way) (map corners ts)) (none h g more a.2 put));
      }

  module _ (p p' : Progress) (a : Drawn m budget d h p e g) (b : Drawn m budget d' h' p' e' g') where
    -- Two draws that are not refused find as many places free.
    free_before : h'.free ≡ h.free
    free_before = same_free way h h' tray

    -- As many cubes are drawn, and they have their readings.
    drawn : p'.drawn ≡ p.drawn
    drawn = same_drawn way m d d' like budget h.free h'.free free_before p.drawn p'.drawn a.cubes b.cubes

    read : (n : ℕ) → n < d.cubes + p.drawn → Readable m (low_of d.sides n)
    read = read_to way m d d' like p.drawn a.cubes.holds.read

    -- The triangles laid are alike.
    before : surface m d' d'.cubes ≡ map (corners_by way) (surface m d d.cubes)
    before = ap (surface m d') like.cubes ∙ surface_like way m d d' like d.cubes like.read

    after : surface m d' (d'.cubes + p'.drawn) ≡ map (corners_by way) (surface m d (d.cubes + p.drawn))
    after =
        ap₂ (λ c k. surface m d' (c + k)) like.cubes drawn
        ∙ surface_like way m d d' like (d.cubes + p.drawn) read

    triangles : LaidBy way a.triangles b.triangles
    triangles =
        append_cancel_left (map (corners_by way) (surface m d d.cubes))
        (map corners b.triangles) (map (corners_by way) (map corners a.triangles))
        (ap (λ ts. ts ++ map corners b.triangles) (sym before)
        ∙ sym b.rules
        ∙ after
        ∙ ap (map (corners_by way)) a.rules
        ∙ map-append (corners_by way) (surface m d d.cubes) (map corners a.triangles))

    -- Their number, which both answers tell, is the same.
    laid : p'.laid ≡ p.laid
    laid = b.laid ∙ as_long way a.triangles b.triangles triangles ∙ sym a.laid

    -- The trays after are alike.
    tray_after : TrayBy way g g'
    tray_after = carried (TrayBy way) a.tray b.tray (added_alike way h h' a.triangles b.triangles tray triangles)

    -- As many cubes are left.
    left : p'.left ≡ p.left
    left =
        let count : cube_count d'.sides ≡ cube_count d.sides = ap cube_count like.sides in
        let cubes = like.cubes in
        let more = drawn in
        omega (arith, a.left, b.left)

    -- The draws end for the same reason.
    ending : p'.ending ≡ p.ending
    ending =
        ends_alike way m d d' like budget g.free g'.free (same_free way g g' tray_after) p.drawn p.ending p'.ending a.ending
        (subst (λ k. Ends m d' budget k g'.free p'.ending) drawn b.ending)

    -- So the answers are the same, and what is left is alike.
    drawn_alike : DrawsAlike way m h h' (Ok p) (Ok p') e e' g g'
    drawn_alike =
        record {
          told = λ i. Ok (record { drawn = drawn i; laid = laid i; left = left i; ending = ending i });
          drawing =
              record {
                of_scan = a.same_sides ∙ like.of_scan;
                sides = b.same_sides ∙ like.sides ∙ sym a.same_sides;
                test = b.same_test ∙ like.test ∙ sym (ap (test_by way) a.same_test);
                pair = b.same_pair ∙ like.pair ∙ sym (ap (pair_by way) a.same_pair);
                cubes = b.cubes_after ∙ ap₂ (λ c k. c + k) like.cubes drawn ∙ sym a.cubes_after;
                triangles = b.triangles_after ∙ ap₂ (λ c k. c + k) like.triangles laid ∙ sym a.triangles_after;
                read =
                    λ n below. subst (λ s. Readable m (low_of s n)) (sym a.same_sides) (read n (subst (λ c. n < c) a.cubes_after below));
              };
          tray = tray_after;
          laid =
              λ more more' put put'. ap (map corners) (more_is h' g' b.triangles more' (ap (λ (x : Held). x.list) b.tray) put')
              ∙ triangles
              ∙ sym (ap (λ ts. map (corners_by way) (map corners ts)) (more_is h g a.triangles more (ap (λ (x : Held). x.list) a.tray) put));
        }

  -- A draw with a scan of other sides is refused; with the scan that was opened it is as above.
  pub draws_alike : (k : Meaning) → (d.sides ≡ k.sides → k ≡ m) → (r r' : Result Progress DrawRefusal)
      → Draws k budget d h r e g → Draws k budget d' h' r' e' g' → DrawsAlike way m h h' r r' e e' g g'
  draws_alike k own r r' o o' =
      compare (λ sides. like.sides ∙ sides) (λ sides. sym like.sides ∙ sides)
      (λ sides. compare (λ zero. zero) (λ zero. zero) (λ zero. none_alike r r' ZeroBudget)
      (λ a b. carried (λ r r'. DrawsAlike way m h h' r r' e e' g g') a.1 b.1
      (drawn_alike a.0 b.0
      (subst (λ k. Drawn k budget d h a.0 e g) (own sides) a.2)
      (subst (λ k. Drawn k budget d' h' b.0 e' g') (own sides) b.2))))
      (none_alike r r' OtherSides)
      (in_order k budget d h r e g o)
      (in_order k budget d' h' r' e' g' o')
