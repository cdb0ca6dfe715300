use Rattle.std.proofs.Common.{◌≡◌, ℕ, ◌+◌, ◌-◌, min, refl, ap, sym, ◌∙◌, subst, cond, eq-eqb, ◌==◌}
use Rattle.std.proofs.lemmas.Bool.{ne_eqb}
use Rattle.std.specs.Option.{unwrap_or}
use Rattle.grid.specs.Cubes.{cube_count}
use Rattle.drawing.specs.Stretches.{Stretched}
use Rattle.drawing.proofs.Reaching.{ending_or, stretched}
use Rattle.drawing.proofs.drawing.Drawing.advance.Goals as goal
use Rattle.drawing.proofs.drawing.Drawing.advance.Goals.{then-left-eq0, else-left-eq0}
use Rattle.drawing.specs.declared.progress.Ending.TheVariants.{Done, Budget}

pub returns-clause-drawn : goal.returns-clause-drawn
returns-clause-drawn g c =
    let m = g.S.Scan.means c.args.scan.now in
    let d = c.args.self.now in
    let s = c.args.tray.now in
    let e = c.stretch-drawn.new.tray in
    let r = c.stretch-drawn.result in
    let count = c.cube_count-count.ensures.0 in
    let end : d.cubes + c.min.result ≡ d.cubes + min c.args.budget (cube_count d.sides - d.cubes) =
    ap (λ n. d.cubes + n) (c.min.ensures ∙ ap (λ n. min c.args.budget (n - d.cubes)) count) in
    let far = subst (λ (n : ℕ). Stretched g.T.Tray.holds g.T.Tray.keeps m d n s e r) end c.stretch-drawn.ensures in
    let left = c.cube_count-count.result - d.cubes - r.drawn in
    let unstopped : c.if-left-eq0.unstopped ≡ cond (left == 0) Done Budget =
    elim c.if-left-eq0.branch [
      | then-left-eq0 w ↦ w.unstopped-is ∙ ap (λ b. cond b Done Budget) (sym (eq-eqb left 0 w.if-left-eq0.true))
      | else-left-eq0 w ↦ w.unstopped-is ∙ ap (λ b. cond b Done Budget) (sym (ne_eqb left 0 w.if-left-eq0.false))
    ] in
    stretched g.T.Tray.lawful m d c.args.budget _ s e r c.unwrap_or.result _ far (ap (λ n. n - d.cubes - r.drawn) count) (c.unwrap_or.ensures ∙ ap (unwrap_or r.stop) unstopped ∙ sym (ending_or r.stop left)) refl refl refl refl refl
