use Rattle.std.proofs.Common.{◌≡◌, map, sym, ap, ◌∙◌, rules}
use Rattle.std.proofs.lemmas.List.{get_or-map}
use Rattle.grid.proofs.Same.{sides_same}
use Rattle.session.specs.declared.call.Call.TheVariants.{DrawOther}
use Rattle.session.proofs.Stepping.{not_made}
use Rattle.session.proofs.step.draw_other.Goals as goal

pub returns-then-eq-clause-steps : goal.returns-then-eq-clause-steps
returns-then-eq-clause-steps g c =
    let x = c.in-Some.another.now in
    let there = c.in-Some.ensures.lookup in
    let same : c.sides.result ≡ c.sides-2.result = sides_same c.sides.result c.sides-2.result (search rules, search rules, search rules) in
    let at = get_or-map g.O.Scan.means c.args.others.now c.args.other x (g.S.Scan.means c.args.scan.now) there.3.0 in
    not_made (g.S.Scan.means c.args.scan.now) (map g.O.Scan.means c.args.others.now) c.args.state _ (DrawOther c.args.other c.args.tray c.args.budget)
    (λ ts can. absurd (can.3 (ap (λ k. k.sides) (at ∙ ap g.O.Scan.means (sym there.1)) ∙ sym c.sides.ensures ∙ same ∙ c.sides-2.ensures)))
