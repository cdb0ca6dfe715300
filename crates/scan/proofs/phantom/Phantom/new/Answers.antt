use Rattle.std.proofs.Common.{◌≡◌, true, false, vec_items, rules}
use Rattle.std.proofs.lemmas.Bool.{both_ways}
use Rattle.scan.specs.Phantoms.{shapes_fit}
use Rattle.scan.specs.Laws.Painting.{first_counts, shapes_true, true_shapes}
use Rattle.scan.proofs.phantom.Phantom.new.Goals as goal

pub returns-then-not-all_fit-clause-refusal : goal.returns-then-not-all_fit-clause-refusal
returns-then-not-all_fit-clause-refusal c =
    let shapes = vec_items c.args.shapes in
    let test : shapes_fit shapes ≡ false = search rules in
    (search rules, search rules, λ fit. both_ways (shapes_fit shapes) test (true_shapes shapes fit))

pub returns-clause-shows : goal.returns-clause-shows
returns-clause-shows c =
    let shapes = vec_items c.args.shapes in
    let test : shapes_fit shapes ≡ true = search rules in record {
      size = search rules;
      fits = shapes_true shapes test;
      reads = search rules;
      first = first_counts shapes;
      beyond = search rules;
    }
