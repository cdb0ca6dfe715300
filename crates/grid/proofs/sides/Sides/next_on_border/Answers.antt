use Rattle.std.proofs.Common.{refl, sym, ◌∙◌, arith}
use Rattle.std.proofs.lemmas.Bool.{false≢true}
use Rattle.grid.proofs.Rims.{layer_passed, not_so, row_passed}
use Rattle.grid.proofs.sides.Sides.next_on_border.Goals as goal
use Rattle.grid.proofs.sides.Sides.next_on_border.Goals.{then-ends, else-ends}

pub returns-else-ends-2 : goal.returns-else-ends-2
returns-else-ends-2 c =
    elim c.if-ends.branch [
      | then-ends w ↦ absurd (false≢true (sym c.if-ends-2.false ∙ w.value-is ∙ w.if-ends.true))
      | else-ends w ↦ row_passed c.args.self c.args.v c.requires (not_so _ _ _ c.ends.ensures w.if-ends.false) (not_so _ _ _ w.ends-else-ends.ensures (sym w.value-is ∙ c.if-ends-2.false)) (omega (arith, c.if-x-self.true)) _ refl refl refl
    ]

pub returns-then-z-self : goal.returns-then-z-self
returns-then-z-self c =
    layer_passed c.args.self c.args.v c.requires (omega (arith, c.if-x-self.false)) (omega (arith, c.if-y-self.false)) (omega (arith, c.if-z-self.true)) _ refl refl refl
