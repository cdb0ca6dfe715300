-- The eight voxels of a cube. Assumes nothing.
use Rattle.std.proofs.Common.{ℕ, zero, suc, T, refl, inl, inr}
use Rattle.cube.specs.Lists.{In}
use Rattle.cube.specs.Cube.{Kinds, solid, voxels}

-- A solid voxel is one of the eight.
pub solid_voxel : (k : Kinds) (i : ℕ) → T (solid k i) → In i voxels
solid_voxel k zero t = inl refl
solid_voxel k (suc zero) t = inr (inl refl)
solid_voxel k (suc (suc zero)) t = inr (inr (inl refl))
solid_voxel k (suc (suc (suc zero))) t = inr (inr (inr (inl refl)))
solid_voxel k (suc (suc (suc (suc zero)))) t = inr (inr (inr (inr (inl refl))))
solid_voxel k (suc (suc (suc (suc (suc zero))))) t = inr (inr (inr (inr (inr (inl refl)))))
solid_voxel k (suc (suc (suc (suc (suc (suc zero)))))) t = inr (inr (inr (inr (inr (inr (inl refl))))))
solid_voxel k (suc (suc (suc (suc (suc (suc (suc zero))))))) t = inr (inr (inr (inr (inr (inr (inr (inl refl)))))))
solid_voxel k (suc (suc (suc (suc (suc (suc (suc (suc i)))))))) t = absurd t
