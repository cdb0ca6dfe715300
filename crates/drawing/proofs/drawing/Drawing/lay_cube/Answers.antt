use Rattle.std.proofs.Common.{◌∙◌, refl, subst, arith}
use Rattle.drawing.specs.Laying.{LaidIn}
use Rattle.drawing.proofs.CubeLays.{halts, none_of_one_kind, read_off}
use Rattle.drawing.proofs.Lays.{lays_none}
use Rattle.drawing.proofs.drawing.Drawing.lay_cube.Goals as goal

pub returns-then-of_one_kind-clause-laid : goal.returns-then-of_one_kind-clause-laid
returns-then-of_one_kind-clause-laid g c =
    let off =
    read_off (g.S.Scan.means c.args.scan.now) c.args.self.now c.args.number c.args.at _ _ _ _ _ c.requires.here
    c.in_ok-mask.was c.map_err.ensures.cases c.mask.ensures (none_of_one_kind c.args.self.now.pair c.in_ok-mask.mask _ _ c.of_one_kind.ensures c.if-of_one_kind.true) in
    (off.readable, off.count, omega arith, subst (LaidIn g.T.Tray.holds g.T.Tray.keeps c.args.tray.now c.args.tray.now) off.rules (lays_none g.T.Tray.lawful c.args.tray.now))

pub lay_mask-requires : goal.lay_mask-requires
lay_mask-requires g c =
    let off =
    read_off (g.S.Scan.means c.args.scan.now) c.args.self.now c.args.number c.args.at _ _ _ _ _ c.requires.here
    c.in_ok-mask.was c.map_err.ensures.cases c.mask.ensures refl in
    off.layable

pub returns-in-Ok-clause-laid : goal.returns-in-Ok-clause-laid
returns-in-Ok-clause-laid g c =
    let off =
    read_off (g.S.Scan.means c.args.scan.now) c.args.self.now c.args.number c.args.at _ _ _ _ _ c.requires.here
    c.in_ok-mask.was c.map_err.ensures.cases c.mask.ensures refl in
    let laid = c.in-Ok.ensures in
    (off.readable, laid.0 ∙ off.count, laid.1, subst (LaidIn g.T.Tray.holds g.T.Tray.keeps c.args.tray.now c.lay_mask.new.tray) off.rules laid.2)

pub returns-in-Err-clause-laid : goal.returns-in-Err-clause-laid
returns-in-Err-clause-laid g c =
    let off =
    read_off (g.S.Scan.means c.args.scan.now) c.args.self.now c.args.number c.args.at _ _ _ _ _ c.requires.here
    c.in_ok-mask.was c.map_err.ensures.cases c.mask.ensures refl in
    let full = c.in-Err.ensures in
    (halts (g.S.Scan.means c.args.scan.now) c.args.self.now c.args.number c.args.at _ _ _ off full.0 full.1, full.2)
