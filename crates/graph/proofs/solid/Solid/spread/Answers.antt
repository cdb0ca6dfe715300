use Rattle.std.proofs.Common.{false, rules}
use borrow.Author.Tests.{tests}
use Rattle.cube.specs.Joined.{taken}
use Rattle.graph.specs.Solids.{kinds_of}
use Rattle.graph.proofs.Made.{made_is}
use Rattle.graph.proofs.solid.Solid.spread.Goals as goal

pub returns : goal.returns
returns c =
    made_is _ (taken c.args.self.connectedness (kinds_of c.args.self) c.args.marked.now) _ (λ i y q called. search (rules, tests)) c.from_fn.result false 8 c.from_fn.ensures.items
