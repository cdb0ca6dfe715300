use Rattle.std.proofs.Common.{◌≡◌, ◌+◌, leb, ◌∷◌, ◌++◌, map, vec_items, sym, refl, ap, ◌∙◌}
use Rattle.std.specs.List.{list_all}
use Rattle.cube.specs.Cube.{kinds}
use Rattle.cube.specs.Graph.{graph}
use Rattle.cube.specs.Loops.{loop_from}
use Rattle.graph.proofs.Found.{loops_past, past_level, past_higher, past_lowest, push_read, read_on}
use Rattle.graph.proofs.trace.loops.Goals as goal
use Rattle.graph.proofs.trace.loops.Goals.{then-carries_corner+in_ok-corners+then-none_below+in_ok-push, then-carries_corner+in_ok-corners+else-none_below, else-carries_corner}

pub loop-link-preserved : goal.loop-link-preserved
loop-link-preserved c =
    let k = kinds c.args.mask.0 in
    let es = graph c.args.s k in
    let i = c.loop-link.link in
    let h = c.loop-link-test.true in
    let cross = c.carries_corner.ensures.0 h in
    let found = vec_items c.loop-link.found in
    elim c.if-carries_corner.branch [
      | then-carries_corner+in_ok-corners+then-none_below+in_ok-push w ↦
          let loop : vec_items w.in_ok-corners.corners ≡ loop_from es i = w.in_ok-corners.ensures in
          let low = ap (list_all (leb i)) (sym loop ∙ sym w.deref.ensures.value) ∙ sym w.none_below.ensures ∙ w.if-none_below.true in
          let next = past_lowest k es i h (sym cross ∙ w.if-carries_corner.true) low in
          read_on vec_items vec_items (loops_past k es (i + 1)) w.found-is w.in_ok-push.ensures.items
          (push_read vec_items found w.in_ok-corners.corners (loops_past k es (i + 1))
          ∙ ap (λ l. map vec_items found ++ (l ∷ loops_past k es (i + 1))) loop ∙ ap (λ ls. map vec_items found ++ ls) (sym next) ∙ c.loop-link.invariant)
      | then-carries_corner+in_ok-corners+else-none_below w ↦
          let loop : vec_items w.in_ok-corners.corners ≡ loop_from es i = w.in_ok-corners.ensures in
          let low = ap (list_all (leb i)) (sym loop ∙ sym w.deref.ensures.value) ∙ sym w.none_below.ensures ∙ w.if-none_below.false in
          let next = past_higher k es i h (sym cross ∙ w.if-carries_corner.true) low in
          read_on vec_items vec_items (loops_past k es (i + 1)) w.found-is refl (ap (λ ls. map vec_items found ++ ls) (sym next) ∙ c.loop-link.invariant)
      | else-carries_corner w ↦
          let next = past_level k es i h (sym cross ∙ w.if-carries_corner.false) in
          read_on vec_items vec_items (loops_past k es (i + 1)) w.found-is refl (ap (λ ls. map vec_items found ++ ls) (sym next) ∙ c.loop-link.invariant)
    ]
