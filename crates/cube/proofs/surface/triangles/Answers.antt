use Rattle.std.proofs.Common.{sym, subst}
use Rattle.cube.specs.Cube.{kinds}
use Rattle.cube.specs.Laws.{Lawful}
use Rattle.cube.proofs.Lawful.{lawful}
use Rattle.cube.proofs.surface.triangles.Goals as goal

pub returns-clause-laws : goal.returns-clause-laws
returns-clause-laws c =
    let k = kinds c.args.mask.0 in
    subst (Lawful c.args.pair k) (sym c.by_pair.ensures) (lawful c.args.pair k)
