-- The bits of a mask and the kinds that they tell. Assumes nothing.
use Rattle.std.proofs.Common.{◌≡◌, ℕ, zero, suc, ◌-◌, ◌*◌, ◌%◌, ◌<◌, Bool, true, false, not, T, List, [], ◌∷◌, length, reverse, bit_or, refl, sym, ap, ◌∙◌, arith}
use Rattle.std.specs.List.{fold, list_all}
use mir.Val.{bool_byte}
use Rattle.cube.specs.Cube.{Kinds, solid, exchange, bit, kinds, kinds_in, voxels}
use Rattle.cube.proofs.Listed.{every_at}
use Rattle.cube.proofs.Everywhere.{everywhere}
use Rattle.cube.proofs.Eight.{eight}
use Rattle.cube.proofs.Masks.{at}
use Rattle.cube.proofs.Voxels.{solid_voxel}

abbrev agree : Bool → Bool → Bool
agree true b = b
agree false b = not b

agree_is : (a b : Bool) → T (agree a b) → a ≡ b
agree_is true true t = refl
agree_is true false t = absurd t
agree_is false true t = absurd t
agree_is false false t = refl

-- Two kinds that agree at each of the eight voxels are the same.
abbrev alike : Kinds → Kinds → ℕ → Bool
alike j k i = agree (solid j i) (solid k i)

all_solid : Kinds
all_solid = record { v0 = true; v1 = true; v2 = true; v3 = true; v4 = true; v5 = true; v6 = true; v7 = true }

alike_are : (j k : Kinds) → T (list_all (alike j k) voxels) → j ≡ k
unfolding all_solid
alike_are j k t =
    let at_voxel : (i : ℕ) → T (solid all_solid i) → solid j i ≡ solid k i = λ i s.
    agree_is (solid j i) (solid k i) (every_at (alike j k) voxels t i (solid_voxel all_solid i s)) in
    λ p. record {
      v0 = at_voxel 0 tt p;
      v1 = at_voxel 1 tt p;
      v2 = at_voxel 2 tt p;
      v3 = at_voxel 3 tt p;
      v4 = at_voxel 4 tt p;
      v5 = at_voxel 5 tt p;
      v6 = at_voxel 6 tt p;
      v7 = at_voxel 7 tt p;
    }

pub kinds_exchanged : (m : ℕ) → m < 256 → kinds (255 - m) ≡ exchange (kinds m)
kinds_exchanged m h =
    alike_are (kinds (255 - m)) (exchange (kinds m)) (at (λ n. list_all (alike (kinds (255 - n)) (exchange (kinds n))) voxels) 256 tt m h)

-- The mask of eight kinds, made from the last on.
abbrev pub mask_of : List Bool → ℕ
mask_of ks = fold (λ n b. bit_or (n * 2 % 256) (bool_byte b)) 0 (reverse ks)

abbrev listed : Kinds → List Bool
listed k = k.v0 ∷ k.v1 ∷ k.v2 ∷ k.v3 ∷ k.v4 ∷ k.v5 ∷ k.v6 ∷ k.v7 ∷ []

kinds_listed : (k : Kinds) → kinds (mask_of (listed k)) ≡ k
kinds_listed k = alike_are (kinds (mask_of (listed k))) k (everywhere (λ j. list_all (alike (kinds (mask_of (listed j))) j) voxels) tt k)

pub kinds_mask_of : (ks : List Bool) → length ks ≡ 8 → kinds (mask_of ks) ≡ kinds_in ks
kinds_mask_of ks h = ap (λ xs. kinds (mask_of xs)) (sym (eight false ks h)) ∙ kinds_listed (kinds_in ks)

pub solid_bit : (m i : ℕ) → i < 8 → bit m i ≡ solid (kinds m) i
solid_bit m zero h = refl
solid_bit m (suc zero) h = refl
solid_bit m (suc (suc zero)) h = refl
solid_bit m (suc (suc (suc zero))) h = refl
solid_bit m (suc (suc (suc (suc zero)))) h = refl
solid_bit m (suc (suc (suc (suc (suc zero))))) h = refl
solid_bit m (suc (suc (suc (suc (suc (suc zero)))))) h = refl
solid_bit m (suc (suc (suc (suc (suc (suc (suc zero))))))) h = refl
solid_bit m (suc (suc (suc (suc (suc (suc (suc (suc i)))))))) h = let z : ⊥ = omega arith in absurd z
