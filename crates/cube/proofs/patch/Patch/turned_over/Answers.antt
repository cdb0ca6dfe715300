use Rattle.std.proofs.Common.{◌≡◌, map, length, take, drop, [], ◌++◌, ap, ap₂, ◌∙◌, rules, slice_set, arith, append-nil, take_all}
use Rattle.std.proofs.lemmas.List.{drop_all, take-map}
use Rattle.std.proofs.lemmas.List.Edits.{map_over_more}
use Rattle.cube.specs.Triangles.{turn_over}
use Rattle.cube.proofs.patch.Patch.turned_over.Goals as goal

pub loop-triangle-preserved : goal.loop-triangle-preserved
loop-triangle-preserved c =
    let items = c.loop-triangle.triangle-items in
    let i = c.loop-triangle.triangle-index in
    ap (slice_set items i) c.turned_over.ensures
    ∙ map_over_more turn_over c.args.self.places items i _ (search rules) c.loop-triangle.invariant (search rules)

pub returns : goal.returns
returns c =
    let n = c.args.self.count in
    let xs = c.args.self.places in
    let i = c.loop-triangle.triangle-index in
    let whole : length xs ≡ 6 = search rules in
    let all : take i xs ≡ xs = take_all i xs (omega arith) in
    let rest : drop i xs ≡ [] = drop_all i xs (omega arith) in
    let turned : c.loop-triangle.triangle-items ≡ map turn_over xs = c.loop-triangle.invariant ∙ ap₂ (λ a b. map turn_over a ++ b) all rest ∙ append-nil (map turn_over xs) in
    ap (take n) turned ∙ take-map turn_over n xs
