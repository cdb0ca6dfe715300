-- The worked cases, computed. Assumes nothing.
use Rattle.std.proofs.Common.{◌≡◌, [], refl}
use Rattle.cube.specs.Lists.{In}
use Rattle.cube.specs.Cube.{Face, faces, Walked, kinds, joins}
use Rattle.cube.specs.Triangles.{triangles, cut_all, with_tube}
use Rattle.cube.specs.Samples.{Samples}
use Rattle.cube.specs.declared.pair.Pair.{Pair}
use Rattle.cube.specs.declared.pair.Pair.TheVariants.{S18H6, S26H6, S6H18, S6H26}
use Rattle.cube.proofs.Listed.{every_at}

hollow : (p : Pair) → triangles p (kinds 0) ≡ []
unfolding cut_all with_tube
hollow S18H6 = refl
hollow S26H6 = refl
hollow S6H18 = refl
hollow S6H26 = refl

solid : (p : Pair) → triangles p (kinds 255) ≡ []
unfolding cut_all with_tube
solid S18H6 = refl
solid S26H6 = refl
solid S6H18 = refl
solid S6H26 = refl

-- Each link that a walk passes joins the voxels on either side of it.
walks : (f : Face) → In f faces → Walked f
walks f i =
    record {
      ab = every_at (λ f. joins f.ab f.a f.b) faces tt f i;
      bc = every_at (λ f. joins f.bc f.b f.c) faces tt f i;
      cd = every_at (λ f. joins f.cd f.c f.d) faces tt f i;
      da = every_at (λ f. joins f.da f.d f.a) faces tt f i;
    }

pub worked : Samples
unfolding cut_all with_tube
worked =
    record {
      hollow = hollow;
      solid = solid;
      one = refl;
      linked = refl;
      across = refl;
      parted = refl;
      opposite = refl;
      tube = refl;
      walks = walks;
    }
