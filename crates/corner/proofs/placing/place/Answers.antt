use Rattle.std.proofs.Common.{rules}
use Rattle.std.proofs.lemmas.Result.{err_from_is_err_and}
use Rattle.corner.proofs.Parted.{bare}
use Rattle.corner.proofs.Placed.{corner_on, refused, same_sides}
use Rattle.corner.proofs.placing.place.Goals as goal

pub returns-in_err-link : goal.returns-in_err-link
returns-in_err-link g c =
    let m = g.S.Scan.means c.args.scan.now in
    let d = c.args.drawing.now in
    let exit = err_from_is_err_and c.from_residual.result c.from_residual.ensures.1 in
    let same = same_sides _ _ m.sides d.sides _ c.sides.ensures c.sides-2.ensures c.ne.ensures c.if-ne.false in
    rw (exit.1, exit.2) (refused d m (g.S.MeasuredScan.spaced c.args.scan.now) c.args.link same c.in_err-link.field-0.0 c.in_err-link.ensures)

pub returns-then-is_solid : goal.returns-then-is_solid
returns-then-is_solid g c =
    let m = g.S.Scan.means c.args.scan.now in
    let d = c.args.drawing.now in
    let e = c.in_ok-link.field-0 in
    let read = c.in_ok-link.ensures in
    let same = same_sides _ _ m.sides d.sides _ c.sides.ensures c.sides-2.ensures c.ne.ensures c.if-ne.false in
    (same, (e, read, bare d.test m c.args.link e read (search rules)))

pub returns : goal.returns
returns g c =
    let m = g.S.Scan.means c.args.scan.now in
    let d = c.args.drawing.now in
    let e = c.in_ok-link.field-0 in
    let read = c.in_ok-link.ensures in
    let place = c.on-place in
    let same = same_sides _ _ m.sides d.sides _ c.sides.ensures c.sides-2.ensures c.ne.ensures c.if-ne.false in
    (same, (e, read, corner_on d.test m c.args.link e read _ place.result c.point_at-point.result (search rules) (search rules) (search rules) (search rules)))
