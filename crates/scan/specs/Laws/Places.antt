-- What a scan answers inside and outside its sides. Assumes nothing.
use Rattle.std.specs.Prelude.{◌≡◌, true, false, ◌&&◌, Ok, Err, nat_lt, refl}
use Rattle.std.proofs.Common.{sym, ap, subst, inl, inr}
use Rattle.std.proofs.lemmas.Bool.{lt-ltb, ltb-true, and_parts, and_from, cases_Bool, both_ways}
use Rattle.grid.specs.Voxels.{Holds}
use Rattle.grid.specs.declared.sides.Sides.{Sides}
use Rattle.grid.specs.declared.voxel.Voxel.{Voxel}
use Rattle.scan.specs.Faults.{own_fault}
use Rattle.scan.specs.Meaning.{Answer, FaultsOutside, Meaning, Told, Voxelwise, Lawful, held, or_outside, scan_of}
use Rattle.scan.specs.declared.fault.Cause.TheVariants.{Outside}

pub held_true : (s : Sides) (v : Voxel) → held s v ≡ true → Holds s v
held_true s v e =
    let outer = and_parts (nat_lt v.x s.x) (nat_lt v.y s.y && nat_lt v.z s.z) e in
    let inner = and_parts (nat_lt v.y s.y) (nat_lt v.z s.z) outer.1 in
    (ltb-true v.x s.x outer.0, ltb-true v.y s.y inner.0, ltb-true v.z s.z inner.1)

pub true_held : (s : Sides) (v : Voxel) → Holds s v → held s v ≡ true
true_held s v h =
    and_from (nat_lt v.x s.x) (nat_lt v.y s.y && nat_lt v.z s.z) (lt-ltb v.x s.x h.0)
    (and_from (nat_lt v.y s.y) (nat_lt v.z s.z) (lt-ltb v.y s.y h.1) (lt-ltb v.z s.z h.2))

pub false_held : (s : Sides) (v : Voxel) → (Holds s v → ⊥) → held s v ≡ false
false_held s v none =
    elim (cases_Bool (held s v)) [ inl e ↦ absurd (none (held_true s v e)) | inr e ↦ e ]

module _ (s : Sides) (answers : Voxel → Answer) where
  -- inside, a voxel answers as it is given
  pub scan_inside : (v : Voxel) → Holds s v → (scan_of s answers).at v ≡ answers v
  scan_inside v h = ap (λ b. or_outside b v (answers v)) (true_held s v h)

  -- outside, the place itself faults
  pub scan_outside : (v : Voxel) → (Holds s v → ⊥) → (scan_of s answers).at v ≡ Err (own_fault Outside v)
  scan_outside v none = ap (λ b. or_outside b v (answers v)) (false_held s v none)

  -- so a scan is lawful where its voxels are
  pub scan_lawful : ((v : Voxel) → Holds s v → Voxelwise (answers v)) → Lawful (scan_of s answers)
  scan_lawful each = record {
    inside = λ v h. subst Voxelwise (sym (scan_inside v h)) (each v h);
    outside = λ v none. subst FaultsOutside (sym (scan_outside v none)) refl;
  }

-- what a lawful scan answers tells where the place lies
pub lawful_told : (m : Meaning) → Lawful m → (v : Voxel) → Told m.sides v (m.at v)
lawful_told m law v =
    elim (cases_Bool (held m.sides v)) [
      | inl e ↦ at_voxel m.sides v (m.at v) (held_true m.sides v e) (law.inside v (held_true m.sides v e))
      | inr e ↦ past m.sides v (m.at v) (off e) (law.outside v (off e))
    ]
  where
    at_voxel : (s : Sides) (w : Voxel) (a : Answer) → Holds s w → Voxelwise a → Told s w a
    at_voxel s w (Ok reading) h l = (h, l)
    at_voxel s w (Err f) h l = inl (h, l)

    past : (s : Sides) (w : Voxel) (a : Answer) → (Holds s w → ⊥) → FaultsOutside a → Told s w a
    past s w (Ok reading) none h = absurd h
    past s w (Err f) none h = inr (none, h)

    off : held m.sides v ≡ false → Holds m.sides v → ⊥
    off e h = both_ways (held m.sides v) e (true_held m.sides v h)
