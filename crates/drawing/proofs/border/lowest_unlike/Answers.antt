use Rattle.grid.proofs.Numbered.{border_weaker}
use Rattle.grid.specs.declared.voxel.Voxel.{Voxel}
use Rattle.drawing.specs.Borders.{Unlike}
use Rattle.drawing.proofs.Edges.{first_unlike}
use Rattle.drawing.proofs.border.lowest_unlike.Goals as goal

pub returns : goal.returns
returns g c =
    let m = g.S.Scan.means c.args.scan.now in
    let t = c.args.test in
    let sides = c.sides.result in
    first_unlike t m c.args.kind sides c.first_on_border.result c.sides.ensures
    (border_weaker sides c.first_on_border.result c.first_on_border.ensures (λ v r (told : Voxel × Unlike t m c.args.kind v r). told.1))
