use Rattle.std.proofs.Common.{ℕ, List, sym, subst}
use Rattle.std.proofs.KnownBytes.{Keeps-refl}
use Rattle.listing.specs.Running.{Written}
use Rattle.listing.specs.declared.outcome.Outcome.TheVariants.{Refused}
use Rattle.listing.proofs.Outputs.{no_line, of_input, of_refusal}
use Rattle.listing.proofs.Streams.{written_answered}
use Rattle.listing.proofs.running.answer.Goals as goal

pub returns-in-Ok-clause-bytes : goal.returns-in-Ok-clause-bytes
returns-in-Ok-clause-bytes g c =
    let o = c.in-Ok.output in
    written_answered c.args.input.now o.bytes.items o.outcome _ _ c.write_output.result (of_input c.args.input.now o.bytes.items c.in-Ok.ensures.once o.outcome c.in-Ok.ensures.told)
    (subst (λ (bs : List ℕ). Written bs o.outcome (g.W.Write.contents c.args.to.now) (g.W.Write.contents c.write_output.new.to) c.write_output.result) c.as_slice.ensures.value c.write_output.ensures.bytes)

pub returns-in-Some-clause-bytes : goal.returns-in-Some-clause-bytes
returns-in-Some-clause-bytes g c =
    written_answered c.args.input.now c.in-Some.line Refused _ _ c.write_output-in-Some.result
    (of_refusal c.args.input.now c.in-Some.line c.in-Err.ensures.once c.in-Err.unread (sym c.in-Some.ensures) c.in-Err.ensures.told)
    c.write_output-in-Some.ensures.bytes

pub returns-in-None-clause-bytes : goal.returns-in-None-clause-bytes
returns-in-None-clause-bytes g c =
    let lacks = no_line c.args.input.now c.in-Err.unread (sym c.in-None.ensures) c.in-Err.ensures.told in
    record { header = lacks.0; readings = lacks.1; accepted = lacks.2; kept = Keeps-refl _ }
