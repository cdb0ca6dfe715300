use Rattle.std.proofs.Common.{◌≡◌, ℕ, ◌<◌, false, length, get_or}
use Rattle.surface.specs.Places.{voxel_at}
use Rattle.drawing.specs.Readings.{ReadBefore}
use Rattle.drawing.specs.Solids.{solids_of}
use Rattle.drawing.proofs.cube_at.CubeAt.mask.Given as goal

-- The voxels passed have readings, and their kinds are noted.
abbrev pub invariant-loop-i : goal.invariant-loop-i
invariant-loop-i g l =
    let m = g.S.Scan.means l.scan in
    record {
      long : length l.solid-items ≡ 8;
      read : ReadBefore m l.self.low l.i;
      kinds : (j : ℕ) → j < l.i → get_or l.solid-items j false ≡ solids_of l.test m (voxel_at l.self.low j);
    }
