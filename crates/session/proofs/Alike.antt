-- How things stand alike in two lists of calls, and that then the same calls can be made. Assumes nothing.
use Rattle.std.proofs.Common.{◌≡◌, ℕ, ◌<◌, List, length, refl, arith}
use Rattle.scan.specs.Meaning.{Meaning}
use Rattle.drawing.specs.declared.closed.Closed.{Closed}
use Rattle.drawing.specs.declared.drawing.Drawing.{Drawing}
use Rattle.session.specs.Worlds.{World}
use Rattle.session.specs.Calls.{IsOpen, CanMake}
use Rattle.session.specs.Ways.{Way, call_by, TraysBy}
use Rattle.session.specs.declared.call.Call.{Call}
use Rattle.session.specs.declared.call.Call.TheVariants.{Open, Draw, DrawOther, Close, Empty}
use Rattle.session.specs.declared.state.State.{State}
use Rattle.session.specs.declared.state.State.TheVariants.{Unopened, Opened, Finished}
use Rattle.session.proofs.Likewise.{Likewise, carried}
use Rattle.session.proofs.Trays.{LaidBy}

-- Both are as far, and their drawings stand alike.
pub data States (way : Way) (m : Meaning) : State → State → Type 0 where
  unopened : States way m Unopened Unopened
  opened : {d d' : Drawing} → Likewise way m d d' → States way m (Opened d) (Opened d')
  finished : {c c' : Closed} → Likewise way m c.drawing c'.drawing → States way m (Finished c) (Finished c')

-- States, trays and what was laid are alike.
pub record Alike (way : Way) (m : Meaning) (w w' : World) : Type 0 where
  pub states : States way m w.state w'.state
  pub trays : TraysBy way w.trays w'.trays
  pub laid : LaidBy way w.laid w'.laid

-- A state is only one of the three.
never_opened : (d : Drawing) → Unopened ≡ Opened d → ⊥
never_opened d e = let z : ◌≡◌ {A = ℕ} 0 1 = cc in omega arith

closed_again : (c : Closed) (d : Drawing) → Finished c ≡ Opened d → ⊥
closed_again c d e = let z : ◌≡◌ {A = ℕ} 0 1 = cc in omega arith

opened_once : (d : Drawing) → Opened d ≡ Unopened → ⊥
opened_once d e = let z : ◌≡◌ {A = ℕ} 0 1 = cc in omega arith

closed_once : (c : Closed) → Finished c ≡ Unopened → ⊥
closed_once c e = let z : ◌≡◌ {A = ℕ} 0 1 = cc in omega arith

-- An open state has one drawing.
same_opened : (d e : Drawing) → Opened d ≡ Opened e → e ≡ d
same_opened d e p = cc

-- One follows from the other, both ways.
abbrev Both : Type 0 → Type 0 → Type 0
Both A B = (A → B) × (B → A)

module _ {way : Way} {m : Meaning} where
  -- The drawings found open stand alike.
  pub both_opened : {s s' : State} → States way m s s' → (d d' : Drawing)
      → s ≡ Opened d → s' ≡ Opened d' → Likewise way m d d'
  both_opened unopened d d' p q = absurd (never_opened d p)
  both_opened (opened {d = e} {d' = e'} like) d d' p q = carried (Likewise way m) (same_opened e d p) (same_opened e' d' q) like
  both_opened (finished {c} {c'} like) d d' p q = absurd (closed_again c d p)

  -- One is open, or not yet opened, just where the other is.
  open_both : {s s' : State} → States way m s s' → Both (IsOpen s) (IsOpen s')
  open_both unopened = ((λ o. o), (λ o. o))
  open_both (opened {d} {d'} like) = ((λ o. (d', refl)), (λ o. (d, refl)))
  open_both (finished {c} {c'} like) = ((λ o. absurd (closed_again c o.0 o.1)), (λ o. absurd (closed_again c' o.0 o.1)))

  unopened_both : {s s' : State} → States way m s s' → Both (s ≡ Unopened) (s' ≡ Unopened)
  unopened_both unopened = ((λ e. e), (λ e. e))
  unopened_both (opened {d} {d'} like) = ((λ e. absurd (opened_once d e)), (λ e. absurd (opened_once d' e)))
  unopened_both (finished {c} {c'} like) = ((λ e. absurd (closed_once c e)), (λ e. absurd (closed_once c' e)))

  -- A tray is there in both.
  there_both : {w w' : World} → Alike way m w w' → (t : ℕ) → Both (t < length w.trays) (t < length w'.trays)
  there_both like t = let many = like.trays.many in ((λ below. omega arith), (λ below. omega arith))

-- A call can be made in the one just where it can by the way in the other.
pub can_both : (way : Way) (m : Meaning) (others : List Meaning) (w w' : World) → Alike way m w w' → (c : Call)
    → Both (CanMake m others w c) (CanMake m others w' (call_by way c))
can_both way m others w w' like (Open asked) = unopened_both like.states
can_both way m others w w' like (Draw t budget) =
    let drawn = open_both like.states in
    let there = there_both like t in
    ((λ x. (drawn.0 x.0, there.0 x.1)), (λ x. (drawn.1 x.0, there.1 x.1)))
can_both way m others w w' like (DrawOther o t budget) =
    let drawn = open_both like.states in
    let there = there_both like t in
    ((λ x. (drawn.0 x.0, there.0 x.1, x.2, x.3)), (λ x. (drawn.1 x.0, there.1 x.1, x.2, x.3)))
can_both way m others w w' like Close = open_both like.states
can_both way m others w w' like (Empty t) = there_both like t
