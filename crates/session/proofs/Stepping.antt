-- One call of a list, from what the call by itself ensures. Assumes nothing.
use Rattle.std.proofs.Common.{◌≡◌, ℕ, ◌<◌, List, [], ◌++◌, map, length, get_or, set, Ok, Err, Result, Some, None, Option, sym, refl, ap, ◌∙◌, subst, inl, inr, ⊎_elim, append-nil}
use Rattle.std.proofs.lemmas.List.{get_or-map}
use Rattle.scan.specs.Meaning.{Meaning}
use Rattle.tray.specs.Holding.{Held}
use Rattle.tray.specs.declared.triangle.Triangle.{Triangle}
use Rattle.drawing.specs.Draws.{Draws}
use Rattle.drawing.specs.declared.drawing.Drawing.{Drawing}
use Rattle.drawing.specs.declared.progress.DrawRefusal.{DrawRefusal}
use Rattle.drawing.specs.declared.progress.DrawRefusal.TheVariants.{OtherSides, ZeroBudget}
use Rattle.drawing.specs.declared.progress.Progress.{Progress}
use Rattle.session.specs.Worlds.{World, tray_at}
use Rattle.session.specs.Calls.{other_at, CanMake, DrawingOn, Made}
use Rattle.session.specs.Steps.{world, Steps, StepsAlone, Clears, Tries}
use Rattle.session.specs.declared.call.Answer.{Answer}
use Rattle.session.specs.declared.call.Answer.TheVariants as answer
use Rattle.session.specs.declared.call.Call.{Call}
use Rattle.session.specs.declared.call.Call.TheVariants.{DrawOther, Empty}
use Rattle.session.specs.declared.state.State.{State}
use Rattle.session.specs.declared.state.State.TheVariants.{Opened}

module _ {T : Type 0} (holds : T → Held) where
  -- What a tray of the list holds stands at its place.
  pub at_tray : (xs : List T) (i : ℕ) (d : T) → i < length xs → tray_at (map holds xs) i ≡ holds (get_or xs i d)
  at_tray xs i d h = get_or-map holds xs i d _ h

-- Where nothing more is laid, what was laid stays.
pub no_more : (s : State) (hs : List Held) (ts : List Triangle) → world s hs (ts ++ []) ≡ world s hs ts
no_more s hs ts = ap (world s hs) (append-nil ts)

-- What a draw puts into its tray is laid.
pub drew : (m : Meaning) (budget t : ℕ) (s : State) (hs hs' : List Held) (d d' : Drawing) (h h' : Held) (r : Result Progress DrawRefusal) (a : Option Answer)
    → s ≡ Opened d → tray_at hs t ≡ h → t < length hs → Draws m budget d h r d' h' → a ≡ Some (answer.Drawn r) → hs' ≡ set hs t h'
    → Tries m s hs t budget a (Opened d') hs'
drew m budget t s hs hs' d d' h h' r a found at lt law told after = (
  (more r law).0,
  λ ts. inl (
    ((d, found), lt),
    record {
      before = d;
      found = found;
      result = r;
      drawing = d';
      held = h';
      more = (more r law).0;
      law = subst (λ (k : Held). Draws m budget d k r d' h') (sym at) law;
      put = (more r law).1 ∙ ap (λ (k : Held). k.list ++ (more r law).0) (sym at);
      told = told;
      after = ap (λ l. world (Opened d') l (ts ++ (more r law).0)) after;
    },
  ),
)
  where
    stayed : h' ≡ h → h'.list ≡ h.list ++ []
    stayed e = ap (λ k. k.list) e ∙ sym (append-nil h.list)

    more : (q : Result Progress DrawRefusal) → Draws m budget d h q d' h' → (us : List Triangle) × (h'.list ≡ h.list ++ us)
    more (Ok p) law = (law.2.triangles, ap (λ k. k.list) law.2.tray)
    more (Err OtherSides) law = ([], stayed law.2)
    more (Err ZeroBudget) law = ([], stayed law.3)

-- A draw with another scan, which has other sides, is a draw with that scan.
pub tried_other : (m n : Meaning) (others : List Meaning) (o t budget : ℕ) (s s' : State) (hs hs' : List Held) (a : Option Answer)
    → o < length others → other_at others m o ≡ n → (n.sides ≡ m.sides → ⊥) → Tries n s hs t budget a s' hs'
    → Steps m others s hs (DrawOther o t budget) a s' hs'
tried_other m n others o t budget s s' hs hs' a lt at apart tries = (
  tries.0,
  λ ts. ⊎_elim
      (λ h. inl (
        (h.0.0, h.0.1, lt, λ e. apart (sym (ap (λ k. k.sides) at) ∙ e)),
        subst (λ (k : Meaning). DrawingOn k t budget (world s hs ts) a (world s' hs' (ts ++ tries.0))) (sym at) h.1,
      ))
      (λ h. inr (λ can. h.0 (can.0, can.1), h.1, h.2))
      (tries.1 ts),
)

-- A call that cannot be made changes nothing.
pub not_made : (m : Meaning) (others : List Meaning) (s : State) (hs : List Held) (c : Call)
    → ((ts : List Triangle) → CanMake m others (world s hs ts) c → ⊥) → Steps m others s hs c None s hs
not_made m others s hs c cannot = ([], λ ts. inr (cannot ts, refl, no_more s hs ts))

-- A call that touches no tray lays nothing.
pub alone : (m : Meaning) (others : List Meaning) (s s' : State) (hs : List Held) (c c' : Call) (a : Option Answer)
    → c ≡ c' → StepsAlone m s c' a s' → Steps m others s hs c a s' hs
alone m others s s' hs c c' a e h = (
  [],
  λ ts. subst (λ (k : Call). Made m others (world s hs ts) k a (world s' hs (ts ++ []))) (sym e)
      (subst (λ (w : World). Made m others (world s hs ts) c' a w) (sym (no_more s' hs ts)) (h others hs ts)),
)

-- Nor does the emptying of a tray.
pub cleared : (m : Meaning) (others : List Meaning) (s s' : State) (hs hs' : List Held) (c : Call) (t : ℕ) (a : Option Answer)
    → c ≡ Empty t → Clears s hs t a s' hs' → Steps m others s hs c a s' hs'
cleared m others s s' hs hs' c t a e h = (
  [],
  λ ts. subst (λ (k : Call). Made m others (world s hs ts) k a (world s' hs' (ts ++ []))) (sym e)
      (subst (λ (w : World). Made m others (world s hs ts) (Empty t) a w) (sym (no_more s' hs' ts)) (h m others ts)),
)
