use Rattle.std.proofs.Common.{◌≡◌, ◌+◌, [], ◌∷◌, ◌++◌, map, length, take, sym, ap, ◌∙◌, subst, arith}
use lib.ListN.{length-map}
use Rattle.std.proofs.lemmas.Bool.{some_since}
use Rattle.std.proofs.lemmas.Option.{MatchOption-at_some}
use Rattle.std.proofs.lemmas.List.{length-take-le, map_more}
use Rattle.surface.specs.Laid.{numbered}
use Rattle.drawing.specs.Laying.{LaidIn, corners}
use Rattle.drawing.proofs.Lays.{at_in, lays_more, goes_in}
use Rattle.drawing.proofs.cube_at.CubeAt.lay.Goals as goal

pub triangle-requires : goal.triangle-requires
triangle-requires g c =
    (c.requires.layable _ (at_in c.args.triangles.now c.loop-t.t-index (0, 0, 0) (omega arith))).0

pub unwrap-requires : goal.unwrap-requires
unwrap-requires g c =
    some_since _ _ _ c.triangle.ensures (λ none. none (c.requires.layable _ (at_in c.args.triangles.now c.loop-t.t-index (0, 0, 0) (omega arith))).1)

pub unwrap-requires-in-loop-t : goal.unwrap-requires-in-loop-t
unwrap-requires-in-loop-t g c =
    let cube = c.args.triangles.now in
    let i = c.loop-t.t-index in
    let long = length-map (take i cube) (numbered c.args.self.sides c.args.self.low) ∙ length-take-le i cube (omega arith) in
    goes_in g.T.Tray.lawful c.args.tray.now c.loop-t.tray c.put.new.self _ _ c.put.result c.loop-t.invariant (omega (arith, long, c.requires.room)) c.put.ensures.put

pub loop-t-preserved : goal.loop-t-preserved
loop-t-preserved g c =
    let f = numbered c.args.self.sides c.args.self.low in
    let cube = c.args.triangles.now in
    let i = c.loop-t.t-index in
    let long : length (map f (take i cube)) ≡ i = length-map (take i cube) f ∙ length-take-le i cube (omega arith) in
    let more = lays_more g.T.Tray.lawful c.args.tray.now c.loop-t.tray c.put.new.self _ _ c.put.result c.loop-t.invariant (omega (arith, long, c.requires.room)) c.put.ensures.put c.put.ensures.rest in
    let here : map f (take i cube) ++ corners c.unwrap.result ∷ [] ≡ map f (take (i + 1) cube) =
    ap (λ u. map f (take i cube) ++ u ∷ []) (MatchOption-at_some _ _ _ c.unwrap.ensures c.triangle.ensures) ∙ sym (map_more f cube i (0, 0, 0) (omega arith)) in
    subst (LaidIn g.T.Tray.holds g.T.Tray.keeps c.args.tray.now c.put.new.self) here more
