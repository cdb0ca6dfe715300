use Rattle.std.proofs.Common.{◌<◌, [], map, length, get_or, refl, inr, arith}
use lib.ListN.{length-map}
use Rattle.std.proofs.lemmas.List.{map-set}
use Rattle.session.proofs.Keeping.{one_kept, draw_places, untouched}
use Rattle.session.proofs.Stepping.{no_more, at_tray, drew}
use Rattle.session.proofs.step.draw.Goals as goal

pub returns-then-tray-trays-clause-tries : goal.returns-then-tray-trays-clause-tries
returns-then-tray-trays-clause-tries g c =
    ([], λ ts. inr (λ can. absurd (omega (arith, can.1, length-map c.args.trays.now g.T.Tray.holds, c.if-tray-trays.true)), refl, no_more _ _ ts))

pub returns-in-Opened : goal.returns-in-Opened
returns-in-Opened g c =
    let m = g.S.Scan.means c.args.scan.now in
    let holds = g.T.Tray.holds in
    let trays = c.args.trays.now in
    let t = c.args.tray in
    let hs = map holds trays in
    let x = get_or trays t c.index-trays-tray.result in
    let y = c.draw-result.new.tray in
    let d = c.in-Opened.drawing in
    let d' = c.draw-result.new.self in
    let r = c.draw-result.result in
    let law = c.draw-result.ensures.draws in
    let lt : t < length hs = omega (arith, length-map trays holds, c.if-tray-trays.false) in
    record {
      tries =
          drew m c.args.budget t c.args.state hs _ d d' (holds x) (holds y) r _ c.in-Opened.is
          (at_tray holds trays t _ c.if-tray-trays.false) lt law refl (map-set holds trays t y);
      rest = (
        one_kept holds g.T.Tray.keeps trays t c.index-trays-tray.result y c.if-tray-trays.false
            (draw_places m c.args.budget d d' (holds x) (holds y) r law) c.draw-result.ensures.rest,
        untouched trays t c.index-trays-tray.result y r c.draw-result.ensures.refused,
      );
    }

pub returns-in_default : goal.returns-in_default
returns-in_default g c =
    record {
      tries = ([], λ ts. inr (λ can. absurd (c.in_default.not-Opened can.0.0 can.0.1), refl, no_more _ _ ts));
      rest = refl;
    }
