-- The bytes of text trays after a list of calls. Assumes nothing.
use Rattle.std.proofs.Common.{◌≡◌, ℕ, ◌*◌, ◌<◌, ◌≤◌, ◌⊎◌, List, [], ◌∷◌, ◌++◌, map, length, get_or, take, drop, sym, refl, ap, ap₂, ◌∙◌, subst, inl, inr, arith}
use lib.ListN.{length-map}
use Rattle.std.proofs.lemmas.List.{get_or_past, take-append-drop}
use Rattle.std.proofs.lemmas.Bool.{cases_lt}
use Rattle.scan.specs.Meaning.{Meaning}
use Rattle.tray.specs.Buffers.{bytes_of, text_holds, TextKeeps, text_lawful}
use Rattle.tray.specs.Holding.{Held}
use Rattle.tray.specs.Texts.{text_of}
use Rattle.tray.specs.declared.text_tray.TextTray.{TextTray}
use Rattle.session.specs.Worlds.{tray_at}
use Rattle.session.specs.Calls.{Made}
use Rattle.session.specs.Keeping.{Kept, Standing, world_of, start_on, RunsOn}
use Rattle.session.specs.Bytes.{Overwritten, SameTexts, SameBytes}
use Rattle.session.specs.Ways.{again, call_by, calls_of, TraysBy}
use Rattle.session.specs.declared.call.Call.{Call}
use Rattle.session.specs.declared.call.Call.TheVariants.{Open, Draw, DrawOther, Close, Empty}
use Rattle.session.specs.declared.call.Entry.{Entry}
use Rattle.session.proofs.Alike.{unopened, Alike}
use Rattle.session.proofs.Keeping.{each_kept, as_many, changed}
use Rattle.session.proofs.Likewise.{carried}
use Rattle.session.proofs.Steps.{made_alike}
use Rattle.session.proofs.Stepping.{at_tray}

pub overwritten : Overwritten
overwritten x y k =
    let bs = bytes_of y in
    let ts = (text_holds y).list in
    let count : length ts ≡ y.held = y.spells.count in
    let front : text_of ts ≡ take (27 * length ts) bs = y.spells.text ∙ ap (λ (n : ℕ). take (27 * n) bs) (sym count) in
    sym (take-append-drop (27 * length ts) bs) ∙ ap₂ (λ (a b : List ℕ). a ++ b) (sym front) k.rest.0.1

-- The same call again.
call_again : (c : Call) → call_by again c ≡ c
call_again (Open asked) = refl
call_again (Draw t budget) = refl
call_again (DrawOther o t budget) = refl
call_again Close = refl
call_again (Empty t) = refl

-- Two text trays kept alike have the same bytes again, if they had and now hold the same.
same_bytes : (x y x' y' : TextTray) → Kept text_holds TextKeeps x y → Kept text_holds TextKeeps x' y'
    → text_holds y' ≡ text_holds y → bytes_of x' ≡ bytes_of x → bytes_of y' ≡ bytes_of y
same_bytes x y x' y' k k' held bytes =
    overwritten x' y' k'
    ∙ ap₂ (λ (h : Held) (bs : List ℕ). text_of h.list ++ drop (27 * length h.list) bs) held bytes
    ∙ sym (overwritten x y k)

-- Trays at a place hold the same where the lists of what they hold are the same there.
same_held : (xs ys : List TextTray) → length ys ≡ length xs → ((t : ℕ) → tray_at (map text_holds ys) t ≡ tray_at (map text_holds xs) t)
    → (t : ℕ) (d : TextTray) → text_holds (get_or ys t d) ≡ text_holds (get_or xs t d)
same_held xs ys many alike t d = at (cases_lt t (length xs))
  where
    at : (t < length xs) ⊎ (length xs ≤ t) → text_holds (get_or ys t d) ≡ text_holds (get_or xs t d)
    at (inl lt) = sym (at_tray text_holds ys t d (omega (arith, many))) ∙ alike t ∙ at_tray text_holds xs t d lt
    at (inr past) = ap text_holds (get_or_past ys t d (omega (arith, many)) ∙ sym (get_or_past xs t d past))

module _ (m : Meaning) (others : List Meaning) where
  texts_alike : (s s' v v' : Standing TextTray) (es es' : List Entry) → Alike again m (world_of text_holds s) (world_of text_holds s')
      → SameTexts s.trays s'.trays → calls_of es' ≡ calls_of es
      → RunsOn m others text_holds TextKeeps s es v → RunsOn m others text_holds TextKeeps s' es' v' → SameTexts v.trays v'.trays
  texts_alike s s' v v' [] [] like same calls runs runs' =
      carried SameTexts (ap (λ (u : Standing TextTray). u.trays) runs) (ap (λ (u : Standing TextTray). u.trays) runs') same
  texts_alike s s' v v' [] (e' ∷ es') like same calls runs runs' = absurd (omega (arith, ap length calls))
  texts_alike s s' v v' (e ∷ es) [] like same calls runs runs' = absurd (omega (arith, ap length calls))
  texts_alike s s' v v' (e ∷ es) (e' ∷ es') like same calls (u, made, leaves, runs) (u', made', leaves', runs') =
      let first : e'.call ≡ e.call = cc in
      let later : calls_of es' ≡ calls_of es = cc in
      let step =
      made_alike again m others (world_of text_holds s) (world_of text_holds s') like e.answer e'.answer (world_of text_holds u) (world_of text_holds u') e.call made
      (subst (λ (c : Call). Made m others (world_of text_holds s') c e'.answer (world_of text_holds u')) (first ∙ sym (call_again e.call)) made') in
      let one = changed text_holds TextKeeps e.call e.answer s.trays u.trays leaves in
      let one' = changed text_holds TextKeeps e'.call e'.answer s'.trays u'.trays leaves' in
      let many : length u'.trays ≡ length u.trays =
      as_many text_holds TextKeeps s'.trays u'.trays one' ∙ same.many ∙ sym (as_many text_holds TextKeeps s.trays u.trays one) in
      let held = same_held u.trays u'.trays many step.1.trays.each in
      let next : SameTexts u.trays u'.trays = record {
        many = many;
        held = held;
        bytes = λ t d. same_bytes (get_or s.trays t d) (get_or u.trays t d) (get_or s'.trays t d) (get_or u'.trays t d)
            (each_kept text_holds TextKeeps text_lawful s.trays u.trays one t d)
            (each_kept text_holds TextKeeps text_lawful s'.trays u'.trays one' t d)
            (held t d) (same.bytes t d);
      } in
      texts_alike u u' v v' es es' step.1 next later runs runs'

-- So the lists are, where the trays hold the same at each place.
held_at : (ts us : List TextTray) (t : ℕ) → SameTexts ts us → (t < length ts) ⊎ (length ts ≤ t)
    → tray_at (map text_holds us) t ≡ tray_at (map text_holds ts) t
held_at ts us t same (inr past) =
    get_or_past (map text_holds us) t _ (omega (arith, same.many, length-map us text_holds))
    ∙ sym (get_or_past (map text_holds ts) t _ (omega (arith, length-map ts text_holds)))
held_at [] us t same (inl lt) = absurd (omega arith)
held_at (d ∷ ts) us t same (inl lt) =
    at_tray text_holds us t d (omega (arith, same.many)) ∙ same.held t d ∙ sym (at_tray text_holds (d ∷ ts) t d lt)

pub bytes_alike : (m : Meaning) (others : List Meaning) → SameBytes m others
bytes_alike m others ts us es es' s s' same calls runs runs' =
    let trays : TraysBy again (map text_holds ts) (map text_holds us) = record {
      many = length-map us text_holds ∙ same.many ∙ sym (length-map ts text_holds);
      each = λ t. held_at ts us t same (cases_lt t (length ts));
    } in
    texts_alike m others (start_on ts) (start_on us) s s' es es' (record { states = unopened; trays = trays; laid = refl }) same calls runs runs'
