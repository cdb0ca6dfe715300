-- The corners of the laid triangles are the links between a solid and a hollow voxel. Assumes nothing.
use mathlib.Core.Path.{◌≡◌, sym, subst}
use mathlib.Core.List.{map}
use Prim.Native.Nat.{ℕ, ◌≤◌, ◌<◌}
use native.Mathlib.Omega.{arith}
use lib.Dec.{T}
use Rattle.grid.specs.Links.{Links, link_number_of}
use Rattle.grid.specs.Cubes.{cube_count}
use Rattle.grid.specs.declared.link.Link.{Link}
use Rattle.grid.specs.declared.sides.Sides.{Sides}
use Rattle.grid.proofs.Numbered.{link_unique}
use Rattle.cube.specs.Lists.{In}
use Rattle.cube.specs.Cube.{link_numbers, crossing}
use Rattle.cube.specs.declared.pair.Pair.{Pair}
use Rattle.cube.proofs.Lawful.{lawful}
use Rattle.surface.specs.Places.{Solids, kinds_at, link_at, number_at, low_of}
use Rattle.surface.specs.Laid.{laid, corners_of, corners}
use Rattle.surface.specs.Joined.{crosses}
use Rattle.surface.specs.Laws.{OfDrawnCube, AllCornered}
use Rattle.surface.proofs.Membership.{in_map, map_in, kept, keeps}
use Rattle.surface.proofs.Numbered.{low_is, links_at}
use Rattle.surface.proofs.KindsAt.{crossing_at}
use Rattle.surface.proofs.Sources.{part_from, part_laid, corner_in, in_corner}

module _ (s : Sides) (p : Pair) (solid : Solids) (n : ℕ) (h : n ≤ cube_count s) where
  -- A corner is link l of drawn cube c, which joins a solid and a hollow voxel.
  record Found (m : ℕ) : Type 0 where
    cube : ℕ
    drawn : cube < n
    link : ℕ
    link_of : In link link_numbers
    number : m ≡ number_at s (low_of s cube) link
    crosses : T (crosses solid (link_at (low_of s cube) link))

  corner_from : (m : ℕ) → In m (corners (laid s p solid n)) → Found m
  corner_from m i =
      let r = part_from s p solid corners_of m n i in
      let u = low_of s r.0 in
      let k = kinds_at solid u in
      let q = corner_in s p solid u m r.2 in
      let c = kept (crossing k) q.0 link_numbers ((lawful p k).corner q.0 q.1) in
      record {
        cube = r.0;
        drawn = r.1;
        link = q.0;
        link_of = c.0;
        number = q.2;
        crosses = subst T (crossing_at solid u q.0 c.0) c.1;
      }

  every_corner : (k : Link) → OfDrawnCube s n k → T (crosses solid k) → In (link_number_of s k) (corners (laid s p solid n))
  every_corner k d t =
      let u = low_of s d.cube in
      let r = map_in (link_at u) k link_numbers d.link in
      let cross : T (crossing (kinds_at solid u) r.0) = subst T (sym (crossing_at solid u r.0 r.1)) (subst (λ j. T (crosses solid j)) r.2 t) in
      let corner = (lawful p (kinds_at solid u)).every_corner r.0 (keeps (crossing (kinds_at solid u)) r.0 link_numbers cross r.1) in
      subst (λ j. In (link_number_of s j) (corners (laid s p solid n))) (sym r.2)
      (part_laid s p solid corners_of (number_at s u r.0) n d.cube d.drawn (in_corner s p solid u r.0 corner))

  found_links : (m : ℕ) (f : Found m) → Links s (link_at (low_of s f.cube) f.link)
  found_links m f =
      let lt : f.cube < cube_count s = omega (arith, f.drawn) in
      links_at s (low_of s f.cube) (low_is s f.cube lt) f.link f.link_of

  only_corner : (k : Link) → Links s k → (f : Found (link_number_of s k)) → OfDrawnCube s n k × T (crosses solid k)
  only_corner k l f =
      let j = link_at (low_of s f.cube) f.link in
      let same : k ≡ j = link_unique s k j l.0 (found_links (link_number_of s k) f).0 f.number in (
        record {
          cube = f.cube;
          drawn = f.drawn;
          link =
              subst (λ i. In i (map (link_at (low_of s f.cube)) link_numbers)) (sym same)
              (in_map (link_at (low_of s f.cube)) f.link link_numbers f.link_of);
        },
        subst (λ i. T (crosses solid i)) (sym same) f.crosses,
      )

pub all_cornered : AllCornered
all_cornered s p solid n h =
    record {
      every = every_corner s p solid n h;
      links = λ m i.
          let f = corner_from s p solid n h m i in
          (link_at (low_of s f.cube) f.link, found_links s p solid n h m f, f.number);
      only = λ k l i. only_corner s p solid n h k l (corner_from s p solid n h (link_number_of s k) i);
    }
