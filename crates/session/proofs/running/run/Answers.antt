use Rattle.std.proofs.Common.{◌≡◌, ◌<◌, List, ◌++◌, map, length, take, refl, ◌∙◌, subst, arith, take_all}
use Rattle.session.specs.Keeping.{world_of, start_on, RunsOn}
use Rattle.session.specs.declared.call.Entry.{Entry}
use Rattle.session.proofs.Keeping.{all_kept}
use Rattle.session.proofs.Runs.{same_calls, standing, runs_next, runs_of}
use Rattle.session.proofs.Surfacing.{surfaced}
use Rattle.session.proofs.Repeats.{repeats}
use Rattle.session.proofs.running.run.Goals as goal

pub loop-entry-preserved : goal.loop-entry-preserved
loop-entry-preserved g c =
    let m = g.S.Scan.means c.args.scan.now in
    let others = map g.O.Scan.means c.args.others.now in
    let es = c.loop-entry.entries in
    let i = c.loop-entry.entry-index in
    let lt : i < length es = omega (arith, c.loop-entry-test.true, c.loop-entry.auto.entries) in
    let ts = c.loop-entry.invariant.1.0 in
    let s = standing c.loop-entry.state c.loop-entry.trays ts in (
      same_calls es i c.step.result.1 _ lt ∙ c.loop-entry.invariant.0,
      (
        ts ++ c.step.ensures.steps.0,
        runs_next m others g.T.Tray.holds g.T.Tray.keeps (start_on c.args.trays.now) s _ es i c.step.result.1 _ lt
            c.loop-entry.invariant.1.1 (c.step.ensures.steps.1 ts, c.step.ensures.rest),
      ),
    )

pub returns-clause-ran : goal.returns-clause-ran
returns-clause-ran g c =
    let m = g.S.Scan.means c.args.scan.now in
    let others = map g.O.Scan.means c.args.others.now in
    let holds = g.T.Tray.holds in
    let keeps = g.T.Tray.keeps in
    let es = c.loop-entry.entries in
    let before = start_on c.args.trays.now in
    let ts = c.loop-entry.invariant.1.0 in
    let end = standing c.loop-entry.state c.loop-entry.trays ts in
    let all : take c.loop-entry.entry-index es ≡ es = take_all c.loop-entry.entry-index es (omega (arith, c.loop-entry-test.false, c.loop-entry.auto.entries)) in
    let on = subst (λ (l : List Entry). RunsOn m others holds keeps before l end) all c.loop-entry.invariant.1.1 in
    let runs = runs_of m others holds keeps before end es on in
    record {
      laid = ts;
      runs = on;
      surface = surfaced m others (world_of holds before) (world_of holds end) es runs refl;
      repeats = repeats m others (map holds c.args.trays.now) es (world_of holds end) runs;
      kept = λ u later. all_kept holds keeps g.T.Tray.lawful m others u end later;
    }
