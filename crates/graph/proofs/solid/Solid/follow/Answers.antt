use Rattle.std.proofs.Common.{ℕ, ◌<◌, sym, ◌∙◌, subst}
use Rattle.cube.specs.Cube.{kinds}
use Rattle.graph.proofs.Led.{leads_at}
use Rattle.graph.proofs.solid.Solid.follow.Goals as goal

pub returns : goal.returns
returns c =
    let led = leads_at c.args.walks.now c.requires.table c.args.self.connectedness (kinds c.args.self.mask.0) c.args.link c.requires.link in
    let same = c.by_walks.ensures ∙ led.0 in
    (same, subst (λ (n : ℕ). n < 12) (sym same) led.1)
