-- Tables of walks that lead as the graph does, at one link. Assumes nothing.
use Rattle.std.proofs.Common.{◌≡◌, ℕ, ◌<◌, eqb, ltb, List, eqb→eq, ltb→lt, ◌&&◌}
use Rattle.cube.specs.Cube.{Kinds, link_numbers}
use Rattle.cube.specs.Graph.{graph}
use Rattle.cube.specs.Loops.{next}
use Rattle.graph.specs.Successors.{by_walks, leads, Leads}
use Rattle.cube.specs.declared.pair.Connectedness.{Connectedness}
use Rattle.graph.specs.declared.walk.BothWays.{BothWays}
use Rattle.cube.proofs.Listed.{every_at, and_left, and_right}
use Rattle.cube.proofs.Everywhere.{everywhere_each}
use Rattle.cube.proofs.LinkNumbers.{link_in}

module _ (walks : List BothWays) (led : Leads walks) where
  pub leads_at : (s : Connectedness) (k : Kinds) (l : ℕ) → l < 12 → (by_walks walks s k l ≡ next (graph s k) l) × (next (graph s k) l < 12)
  leads_at s k l h =
      let es = graph s k in
      let t = every_at (λ l. eqb (by_walks walks s k l) (next es l) && ltb (next es l) 12) link_numbers (everywhere_each (leads walks) led s k) l (link_in l h) in (
        eqb→eq (by_walks walks s k l) (next es l) (and_left (eqb (by_walks walks s k l) (next es l)) (ltb (next es l) 12) t),
        ltb→lt (next es l) 12 (and_right (eqb (by_walks walks s k l) (next es l)) (ltb (next es l) 12) t),
      )
