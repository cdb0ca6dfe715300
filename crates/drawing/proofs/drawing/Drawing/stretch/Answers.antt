use Rattle.std.proofs.Common.{◌<◌, arith}
use Rattle.std.proofs.lemmas.Bool.{some_since}
use Rattle.std.proofs.lemmas.Option.{MatchOption-at_some}
use Rattle.grid.specs.Cubes.{cube_count}
use Rattle.drawing.proofs.Beside.{none_beside, read_beside}
use Rattle.drawing.proofs.Steps.{stepped}
use mir.Facts.{Fits-below}
use Rattle.drawing.proofs.Reaching.{cubes_bound, reached_none, reached_more}
use Rattle.drawing.proofs.drawing.Drawing.stretch.Goals as goal

pub loop-number-init : goal.loop-number-init
loop-number-init g c = record {
  reached = reached_none g.T.Tray.lawful (g.S.Scan.means c.args.scan.now) c.args.self.now c.args.tray.now;
  next = c.new-next.ensures.at;
  beside = none_beside c.args.self.now.test (g.S.Scan.means c.args.scan.now) c.new-next.result;
}

pub overflow_add-laid : goal.overflow_add-laid
overflow_add-laid g c =
    Fits-below {n = 100663302} tt
    (omega (arith, c.loop-number.invariant.reached.few, c.in-Ok.ensures.laid.2, c.requires, cubes_bound c.args.self.now.sides, c.loop-number-test.true))

pub loop-number-preserved : goal.loop-number-preserved
loop-number-preserved g c =
    let s = c.args.self.now.sides in
    let n = c.loop-number.number in
    let below : n < cube_count s = omega (arith, c.requires, c.loop-number-test.true) in
    record {
      reached = reached_more g.T.Tray.lawful (g.S.Scan.means c.args.scan.now) c.args.self.now n c.args.tray.now c.loop-number.tray c.lay_cube.new.tray c.loop-number.laid c.in-Ok.cube.count c.loop-number.invariant.reached c.in-Ok.ensures.laid;
      next = stepped s n c.unwrap-at.result _ below (MatchOption-at_some _ _ _ c.unwrap-at.ensures c.loop-number.invariant.next) c.next-next.ensures.step;
      beside = read_beside c.args.self.now.test (g.S.Scan.means c.args.scan.now) c.unwrap-at.result.low c.in-Ok.cube.mask c.next-next.result c.in-Ok.ensures.read c.next-next.ensures.along;
    }

pub lay_cube-requires-clause-beside : goal.lay_cube-requires-clause-beside
lay_cube-requires-clause-beside g c = MatchOption-at_some _ _ _ c.unwrap-at.ensures c.loop-number.invariant.beside

pub unwrap-at-requires : goal.unwrap-at-requires
unwrap-at-requires g c =
    some_since _ _ _ c.loop-number.invariant.next (λ past. omega (arith, past, c.requires, c.loop-number-test.true))
