-- The test of the laws, computed for each pair at all 256 kinds. Assumes nothing.
use Rattle.std.proofs.Common.{T}
use Rattle.cube.specs.Triangles.{cut_all, with_tube}
use Rattle.cube.specs.declared.pair.Pair.{Pair}
use Rattle.cube.specs.declared.pair.Pair.TheVariants.{S18H6, S26H6, S6H18, S6H26}
use Rattle.cube.specs.Everywhere.{all_kinds}
use Rattle.cube.proofs.Sound.{sound}

s18h6 : T (all_kinds (sound S18H6))
unfolding cut_all with_tube
s18h6 = tt

s26h6 : T (all_kinds (sound S26H6))
unfolding cut_all with_tube
s26h6 = tt

s6h18 : T (all_kinds (sound S6H18))
unfolding cut_all with_tube
s6h18 = tt

s6h26 : T (all_kinds (sound S6H26))
unfolding cut_all with_tube
s6h26 = tt

pub always_sound : (p : Pair) → T (all_kinds (sound p))
always_sound S18H6 = s18h6
always_sound S26H6 = s26h6
always_sound S6H18 = s6h18
always_sound S6H26 = s6h26
