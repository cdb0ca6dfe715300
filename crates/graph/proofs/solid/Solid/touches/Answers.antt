use Rattle.std.proofs.Common.{refl, rules}
use Rattle.std.proofs.lemmas.Iterator.{YieldsList-from_range}
use Rattle.std.proofs.lemmas.Iterator.Search.{any_from_yields_List}
use borrow.Author.Tests.{tests}
use Rattle.cube.specs.Joined.{touching}
use Rattle.graph.proofs.solid.Solid.touches.Goals as goal

pub returns : goal.returns
returns c =
    let test = touching c.args.self.connectedness c.args.marked.now c.args.i in
    any_from_yields_List test _ _ _ c.any.ensures.ran (YieldsList-from_range 0 8 8 refl refl) (λ x b q k. search (rules, tests))
