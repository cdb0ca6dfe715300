-- A call made where things stand alike, by a way of calling, answers the same and leaves things alike. Assumes nothing.
use Rattle.std.proofs.Common.{◌≡◌, ℕ, ◌<◌, List, length, Ok, Err, Result, Some, None, Option, sym, refl, ap, ◌∙◌, inl, inr, arith}
use Rattle.grid.specs.Cubes.{cube_count}
use Rattle.scan.specs.Meaning.{Meaning}
use Rattle.drawing.specs.Closings.{Closes}
use Rattle.drawing.specs.declared.asked.Asked.{Asked}
use Rattle.drawing.specs.declared.closed.Closed.{Closed}
use Rattle.drawing.specs.declared.cubes_left.CubesLeft.{CubesLeft}
use Rattle.drawing.specs.declared.drawing.Drawing.{Drawing}
use Rattle.session.specs.Worlds.{World, tray_at}
use Rattle.session.specs.Calls.{Opening, open_answer, open_after, DrawingOn, Closing, close_answer, close_after, other_at, CanMake, Answered, Made}
use Rattle.session.specs.Ways.{Way, again, exchanged, asked_by, call_by}
use Rattle.session.specs.declared.call.Answer.{Answer}
use Rattle.session.specs.declared.call.Answer.TheVariants as answer
use Rattle.session.specs.declared.call.Call.{Call}
use Rattle.session.specs.declared.call.Call.TheVariants.{Open, Draw, DrawOther, Close, Empty}
use Rattle.session.proofs.Levels.{Level, compare}
use Rattle.session.proofs.Likewise.{Likewise, carried}
use Rattle.session.proofs.Openings.{asked_of, opens_alike}
use Rattle.session.proofs.Draws.{draws_alike}
use Rattle.session.proofs.Trays.{more_alike, set_alike, empty_alike}
use Rattle.session.proofs.Alike.{States, opened, finished, Alike, both_opened, can_both}

-- What an opening is asked for, by a way.
asked_in : (way : Way) (m : Meaning) (w : World) (asked : Asked) (a : Option Answer) (v : World)
    → Opening m (asked_by way asked) w a v → Opening m (asked_of way asked) w a v
asked_in again m w asked a v o = o
asked_in exchanged m w asked a v o = o

-- Two drawings that stand alike are both closed, or both handed back.
closes_alike : (way : Way) (m : Meaning) (d d' : Drawing) → Likewise way m d d' → (r r' : Result Closed CubesLeft)
    → Closes d r → Closes d' r'
    → (close_answer r' ≡ close_answer r) × States way m (close_after r) (close_after r')
closes_alike way m d d' like (Ok c) (Ok c') o o' =
    let both = carried (Likewise way m) o.1 o'.1 like in
    ((λ i. answer.Closed (Ok (record { cubes = both.cubes i; triangles = both.triangles i }))), finished both)
closes_alike way m d d' like (Ok c) (Err e') o o' =
    let count : cube_count d'.sides ≡ cube_count d.sides = ap cube_count like.sides in absurd (omega arith)
closes_alike way m d d' like (Err e) (Ok c') o o' =
    let count : cube_count d'.sides ≡ cube_count d.sides = ap cube_count like.sides in absurd (omega arith)
closes_alike way m d d' like (Err e) (Err e') o o' = (refl, opened (carried (Likewise way m) o.1 o'.1 like))

module _ (way : Way) (m : Meaning) (others : List Meaning) (w w' : World) (like : Alike way m w w') (a a' : Option Answer) (v v' : World) where
  -- The answers are the same, and things are alike after.
  abbrev BothAlike : Type 0
  BothAlike = (a' ≡ a) × Alike way m v v'

  -- This holds of two openings.
  open_alike : (asked : Asked) → Opening m asked w a v → Opening m (asked_of way asked) w' a' v' → BothAlike
  open_alike asked o o' =
      elim (opens_alike way m asked o.result o'.result o.law o'.law) [
        | inl (e, p, q) ↦ (
          o'.told ∙ ap (λ r. Some (open_answer r)) q ∙ sym (o.told ∙ ap (λ r. Some (open_answer r)) p),
          carried (Alike way m) (o.after ∙ ap (open_after w) p) (o'.after ∙ ap (open_after w') q) like,
        )
        | inr (d, d', p, q, drawings) ↦ (
          o'.told ∙ ap (λ r. Some (open_answer r)) q ∙ sym (o.told ∙ ap (λ r. Some (open_answer r)) p),
          carried (Alike way m) (o.after ∙ ap (open_after w) p) (o'.after ∙ ap (open_after w') q)
              (record { states = opened drawings; trays = like.trays; laid = like.laid }),
        )
      ]

  -- It holds of two draws, with the scan that was opened or one with other sides.
  draw_alike : (k : Meaning) → (k.sides ≡ m.sides → k ≡ m) → (t budget : ℕ) → t < length w.trays
      → DrawingOn k t budget w a v → DrawingOn k t budget w' a' v' → BothAlike
  draw_alike k own t budget there o o' =
      let drawings = both_opened like.states o.before o'.before o.found o'.found in
      let draws =
      draws_alike way m budget o.before o'.before (tray_at w.trays t) (tray_at w'.trays t) drawings (like.trays.each t)
      o.drawing o'.drawing o.held o'.held k (λ sides. own (sym sides ∙ drawings.of_scan))
      o.result o'.result o.law o'.law in (
        o'.told ∙ ap (λ r. Some (answer.Drawn r)) draws.told ∙ sym o.told,
        carried (Alike way m) o.after o'.after
            (record {
              states = opened draws.drawing;
              trays = set_alike way w.trays w'.trays t o.held o'.held there like.trays draws.tray;
              laid = more_alike way w.laid w'.laid o.more o'.more like.laid (draws.laid o.more o'.more o.put o'.put);
            }),
      )

  -- It holds of two closings.
  close_alike : Closing w a v → Closing w' a' v' → BothAlike
  close_alike o o' =
      let drawings = both_opened like.states o.before o'.before o.found o'.found in
      let closes = closes_alike way m o.before o'.before drawings o.result o'.result o.law o'.law in (
        o'.told ∙ ap Some closes.0 ∙ sym o.told,
        carried (Alike way m) o.after o'.after (record { states = closes.1; trays = like.trays; laid = like.laid }),
      )

  -- So it holds of any call that can be made.
  answered_alike : (c : Call) → CanMake m others w c → Answered m others w c a v → Answered m others w' (call_by way c) a' v' → BothAlike
  answered_alike (Open asked) can o o' = open_alike asked o (asked_in way m w' asked a' v' o')
  answered_alike (Draw t budget) can o o' = draw_alike m (λ same. refl) t budget can.1 o o'
  answered_alike (DrawOther other t budget) can o o' = draw_alike (other_at others m other) (λ same. absurd (can.3 same)) t budget can.1 o o'
  answered_alike Close can o o' = close_alike o o'
  answered_alike (Empty t) can o o' = (
    o'.0 ∙ sym o.0,
    carried (Alike way m) o.1 o'.1
        (record { states = like.states; trays = empty_alike way w.trays w'.trays t can like.trays; laid = like.laid }),
  )

  -- And it holds of one that cannot be made.
  pub made_alike : (c : Call) → Made m others w c a v → Made m others w' (call_by way c) a' v' → BothAlike
  made_alike c made made' =
      let can = can_both way m others w w' like c in
      compare can.0 can.1 (answered_alike c)
      (λ x x'. (x'.0 ∙ sym x.0, carried (Alike way m) x.1 x'.1 like))
      (in_order w c a v made)
      (in_order w' (call_by way c) a' v' made')
    where
      in_order : (w : World) (c : Call) (a : Option Answer) (v : World) → Made m others w c a v
          → Level (CanMake m others w c) (Answered m others w c a v) ((a ≡ None) × (v ≡ w))
      in_order w c a v (inl x) = inl x
      in_order w c a v (inr x) = inr (x.0, (x.1, x.2))
