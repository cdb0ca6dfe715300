use Rattle.std.proofs.Common.{Ok, Err, Some, refl, ap, inl}
use Rattle.session.specs.declared.call.Answer.TheVariants.{Closed}
use Rattle.session.proofs.step.close.Goals as goal

pub returns-in-Ok : goal.returns-in-Ok
returns-in-Ok c m others hs ts =
    inl (
      (c.in-Opened.drawing, c.in-Opened.is),
      record {
        before = c.in-Opened.drawing;
        found = c.in-Opened.is;
        result = Ok c.in-Ok.closed;
        law = c.in-Ok.ensures;
        told = ap (λ r. Some (Closed (Ok r))) c.report-report.ensures;
        after = refl;
      },
    )

pub returns-in-Err : goal.returns-in-Err
returns-in-Err c m others hs ts =
    inl (
      (c.in-Opened.drawing, c.in-Opened.is),
      record {
        before = c.in-Opened.drawing;
        found = c.in-Opened.is;
        result = Err c.in-Err.refusal;
        law = c.in-Err.ensures;
        told = refl;
        after = refl;
      },
    )
