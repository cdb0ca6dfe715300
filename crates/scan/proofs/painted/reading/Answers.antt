use Rattle.std.proofs.Common.{◌≡◌, ℕ, ◌<◌, Some, None, Option, List, length, MatchOption, Bor, sym, ap, ◌∙◌, arith, rules, tests}
use Rattle.std.specs.List.{AllWithin, HoldsAt}
use Rattle.std.proofs.lemmas.Iterator.{first_from_find, YieldsList-from_slice}
use Rattle.grid.specs.declared.voxel.Voxel.{Voxel}
use Rattle.scan.specs.Phantoms.{Covers, blank, phantom_reads}
use Rattle.scan.specs.Laws.Painting.{first_reads, none_reads}
use Rattle.scan.specs.declared.shape.Shape.{Shape}
use Rattle.scan.proofs.painted.reading.Goals as goal

-- the value of the first shape found to cover a voxel, or 0, is what the shapes read there
first_told : (shapes : List Shape) (v : Voxel) (r : Option (Bor Shape)) (n : ℕ)
    → MatchOption r (AllWithin (λ s. Covers s v → ⊥) shapes 0 (length shapes))
    (λ x. Covers x.now v × (i : ℕ) × (i < length shapes) × HoldsAt (λ s. s ≡ x.now) shapes i × AllWithin (λ s. Covers s v → ⊥) shapes 0 i)
    → MatchOption r (n ≡ 0) (λ x. n ≡ x.now.value) → n ≡ phantom_reads shapes v
first_told shapes v None n misses e = e ∙ sym (none_reads shapes v (λ k h. misses k blank (omega arith) h))
first_told shapes v (Some x) n first e =
    let same = first.3 blank in
    e ∙ ap (λ (s : Shape). s.value) (sym same) ∙ sym (first_reads shapes v first.1 first.2 (rw same first.0) (λ k h. first.4 k blank (omega arith) h))

pub returns : goal.returns
returns c =
    let shapes = c.args.shapes.now in
    let v = c.args.place in
    first_told shapes v c.find-first.result c.map_or.result
    (first_from_find _ _ c.find-first.result (λ s. Covers s v) (λ s. Covers s v → ⊥) c.find-first.ensures.ran (YieldsList-from_slice shapes cc) (λ x q k. search (rules, tests)) (λ x q k. search (rules, tests)))
    (search rules)
