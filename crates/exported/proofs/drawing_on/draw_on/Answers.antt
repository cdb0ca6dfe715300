use Rattle.std.proofs.Common.{◌≡◌, Some, sym, refl, ap, ◌∙◌, arith}
use Rattle.grid.specs.Cubes.{cube_count}
use Rattle.exported.proofs.Sofar.{drawn_of, drew, goes_on, sofar_more}
use Rattle.exported.proofs.drawing_on.draw_on.Goals as goal

pub returns-in-Some : goal.returns-in-Some
returns-in-Some g c =
    let m = g.S.Scan.means c.args.scan.now in
    let d = c.args.drawing.now in
    let budget = c.args.budget in
    let e = c.loop-number.drawing in
    let f = c.draw.new.self in
    let h = g.T.Tray.holds c.loop-number.tray in
    let k = g.T.Tray.holds c.draw.new.tray in
    let p = c.unwrap-progress.result in
    let before = c.loop-number.invariant in
    let drawn = drawn_of m budget e f h k c.draw.result p c.unwrap-progress.ensures c.draw.ensures.draws in
    let sides = c.sides.ensures ∙ sym c.requires.sides ∙ sym before.sides in
    let count : c.cube_count-count.result ≡ cube_count e.sides = c.cube_count-count.ensures.0 ∙ ap cube_count sides in
    drew m d budget (g.T.Tray.holds c.args.tray.now).free e f h k c.loop-number.draws p before drawn _
    (sym c.last.ensures ∙ c.in-Some.is ∙ ap Some (sym c.into.ensures))
    (omega (arith, count, drawn.left, drawn.cubes_after))
    refl
    c.held.ensures

pub loop-number-preserved : goal.loop-number-preserved
loop-number-preserved g c =
    let m = g.S.Scan.means c.args.scan.now in
    let d = c.args.drawing.now in
    let budget = c.args.budget in
    let e = c.loop-number.drawing in
    let f = c.draw.new.self in
    let h = g.T.Tray.holds c.loop-number.tray in
    let k = g.T.Tray.holds c.draw.new.tray in
    let p = c.unwrap-progress.result in
    let drawn = drawn_of m budget e f h k c.draw.result p c.unwrap-progress.ensures c.draw.ensures.draws in
    sofar_more m d budget (g.T.Tray.holds c.args.tray.now).free e f h k c.loop-number.draws p c.loop-number.invariant drawn c.requires.budget
    (goes_on p.ending (sym c.last.ensures ∙ c.in_default.is))
