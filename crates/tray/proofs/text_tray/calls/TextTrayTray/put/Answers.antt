use Rattle.std.proofs.Common.{◌≡◌, ℕ, ◌+◌, ◌-◌, ◌*◌, ◌/◌, ◌≤◌, List, length, drop, Vec, sym, ap, ◌∙◌, subst, arith, refl}
use Rattle.std.specs.Vec.{with_items}
use Rattle.std.specs.declared.alloc.Global.{Global}
use Rattle.std.proofs.lemmas.List.{with_items_is}
use Rattle.tray.specs.declared.triangle.Triangle.{Triangle}
use Rattle.tray.specs.Lines.{with_line}
use Rattle.tray.specs.Texts.{Spells, spelled_by}
use Rattle.tray.proofs.BufferLaws.{spelled_next, spells_next, length_with_line, drop_with_line}
use Rattle.tray.proofs.text_tray.calls.TextTrayTray.put.Goals as goal

-- What the buffer v holds once the next line is written over its bytes.
module _ (v : Vec ℕ Global) (bs ws : List ℕ) (n : ℕ) (t : Triangle) (was : bs ≡ v.items) (room : 27 * n + 27 ≤ length bs) (is : ws ≡ with_line bs n t) where
  fits : 27 * n + 27 ≤ length v.items
  fits = omega (arith, ap length was)

  next_items : (with_items v ws).items ≡ with_line v.items n t
  next_items =
      let placed : ws ≡ with_line v.items n t = is ∙ ap (λ l. with_line l n t) was in
      with_items_is v ws (ap length placed ∙ length_with_line v.items n t fits ∙ sym v.ok.0) ∙ placed

  next_spells : Spells v.items n → Spells (with_items v ws).items (n + 1)
  next_spells h = subst (λ l. Spells l (n + 1)) (sym next_items) (spells_next v.items n t h)

  rest_stays : (m : ℕ) → m ≡ n + 1 → (length (with_items v ws).items ≡ length v.items) × (drop (27 * m) (with_items v ws).items ≡ drop (27 * m) v.items)
  rest_stays m e = (ap length next_items ∙ length_with_line v.items n t fits, ap (drop _) next_items ∙ drop_with_line v.items n m t fits e)

pub invariant_of-self-2 : goal.invariant_of-self-2
invariant_of-self-2 c =
    let s = c.args.self.now in
    let told = c.in_ok-write_line_at.ensures in
    record { spells = next_spells s.bytes _ _ s.held c.args.triangle c.as_mut_slice.ensures.value told.0 told.1 s.spells }

pub returns-clause-put : goal.returns-clause-put
returns-clause-put c =
    let s = c.args.self.now in
    let n = s.held in
    let told = c.in_ok-write_line_at.ensures in
    let items = next_items s.bytes _ _ n c.args.triangle c.as_mut_slice.ensures.value told.0 told.1 in
    let list = ap (spelled_by (n + 1)) items ∙ spelled_next s.bytes.items n c.args.triangle s.spells in
    let free : s.bytes.len / 27 - (n + 1) ≡ s.bytes.len / 27 - n - 1 = omega arith in
    (omega (arith, told.0, ap length c.as_mut_slice.ensures.value, s.bytes.ok.0), λ i. record { list = list i; free = free i })

pub returns-clause-rest : goal.returns-clause-rest
returns-clause-rest c =
    let s = c.args.self.now in
    let told = c.in_ok-write_line_at.ensures in
    let next = next_spells s.bytes _ _ s.held c.args.triangle c.as_mut_slice.ensures.value told.0 told.1 s.spells in
    (rest_stays s.bytes _ _ s.held c.args.triangle c.as_mut_slice.ensures.value told.0 told.1 _ next.count, (refl, (refl, refl)))
