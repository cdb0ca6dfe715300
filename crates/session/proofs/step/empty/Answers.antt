use Rattle.std.proofs.Common.{◌≡◌, ℕ, map, length, get_or, set, sym, refl, ap, ◌∙◌, subst, inl, arith}
use lib.ListN.{length-map}
use Rattle.std.proofs.lemmas.List.{map-set}
use Rattle.tray.specs.Holding.{emptied, places}
use Rattle.tray.proofs.Trays.{places_emptied}
use Rattle.session.specs.Steps.{world}
use Rattle.session.proofs.Keeping.{one_kept}
use Rattle.session.proofs.Stepping.{at_tray}
use Rattle.session.proofs.step.empty.Goals as goal

pub returns : goal.returns
returns g c =
    let holds = g.T.Tray.holds in
    let trays = c.args.trays.now in
    let t = c.args.tray in
    let x = get_or trays t c.index-trays-tray.result in
    let y = c.empty.new.self in
    let empty = c.empty.ensures.emptied in
    let none : length (holds y).list ≡ 0 = ap (λ h. length h.list) empty in
    let at = at_tray holds trays t c.index-trays-tray.result c.if-tray-trays.false in
    record {
      clears = λ m others ts. inl (
        omega (arith, length-map trays holds, c.if-tray-trays.false),
        (refl, ap (λ hs. world c.args.state hs ts) (map-set holds trays t y ∙ ap (set (map holds trays) t) (empty ∙ ap emptied (sym at)))),
      );
      rest = (
        one_kept holds g.T.Tray.keeps trays t c.index-trays-tray.result y c.if-tray-trays.false
            (ap places empty ∙ places_emptied (holds x)) (subst (λ (n : ℕ). g.T.Tray.keeps n x y) (sym none) c.empty.ensures.rest),
        tt,
      );
    }
