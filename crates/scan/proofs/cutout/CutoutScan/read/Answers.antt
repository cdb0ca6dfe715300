use Rattle.std.proofs.Common.{◌≡◌, rules}
use Rattle.scan.specs.Cuts.{cut_means}
use Rattle.scan.specs.Laws.Lawful.{cut_lawful}
use Rattle.scan.specs.Laws.Places.{lawful_told}
use Rattle.scan.proofs.cutout.CutoutScan.read.Goals as goal

pub returns-clause-told : goal.returns-clause-told
returns-clause-told g c =
    let s = c.args.self.now in
    let m = cut_means (g.S.Scan.means s.below) s.low s.lengths in
    let answer : c.map_err.result ≡ m.at c.args.place = search rules in
    rw answer (lawful_told m (cut_lawful (g.S.Scan.means s.below) s.low s.lengths (g.S.Scan.lawful s.below)) c.args.place)
