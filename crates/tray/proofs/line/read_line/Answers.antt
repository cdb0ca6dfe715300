use Rattle.std.proofs.Common.{◌∙◌, ◌++◌, arith}
use Rattle.tray.proofs.LineReads.{thirds, in_thirds, line_read}
use Rattle.tray.proofs.line.read_line.Goals as goal

pub returns-in_err-first : goal.returns-in_err-first
returns-in_err-first c =
    rw c.from_residual-in_err-first.ensures
    (λ t e. c.in_err-first.ensures t.first (omega (arith, t.below.0)) (in_thirds _ _ _ _ _ t c.in_ok-one.ensures.cases c.in_ok-two.ensures.cases e).0)

pub returns-in_err-second : goal.returns-in_err-second
returns-in_err-second c =
    rw c.from_residual-in_err-second.ensures
    (λ t e. c.in_err-second.ensures t.second (omega (arith, t.below.1)) (in_thirds _ _ _ _ _ t c.in_ok-one.ensures.cases c.in_ok-two.ensures.cases e).1)

pub returns-in_err-third : goal.returns-in_err-third
returns-in_err-third c =
    rw c.from_residual-in_err-third.ensures
    (λ t e. c.in_err-third.ensures t.third (omega (arith, t.below.2)) (in_thirds _ _ _ _ _ t c.in_ok-one.ensures.cases c.in_ok-two.ensures.cases e).2)

pub returns : goal.returns
returns c =
    let cut = thirds _ _ _ _ _ c.in_ok-one.ensures.cases c.in_ok-two.ensures.cases in
    let one = c.in_ok-first.ensures in
    let two = c.in_ok-second.ensures in
    let three = c.in_ok-third.ensures in
    line_read c.new.result c.ok.result c.args.line.now _ _ _ one.0 two.0 three.0 (cut.whole ∙ (λ i. one.1 i ++ (two.1 i ++ three.1 i))) c.ok.ensures.value c.new.ensures
