-- What one cube of a drawing lays, from its mask. Assumes nothing.
use Rattle.std.proofs.Common.{◌≡◌, ℕ, ◌<◌, List, map, length, Ok, Result, MatchResult, sym, refl, ap, ◌∙◌, subst, inl, inr, [], Bool, true, false, ◌⊎◌, ⊎_elim, MatchBool}
use lib.ListN.{length-map}
use Rattle.std.specs.Result.{IsErrAnd}
use Rattle.std.proofs.lemmas.Bool.{false≢true}
use Rattle.grid.specs.Cubes.{Low}
use Rattle.grid.specs.declared.sides.Sides.{Sides}
use Rattle.grid.specs.declared.voxel.Voxel.{Voxel}
use Rattle.cube.specs.Cube.{Kinds, kinds}
use Rattle.cube.specs.Triangles.{triangles}
use Rattle.cube.specs.declared.mask.Mask.{Mask}
use Rattle.cube.specs.declared.pair.Pair.{Pair}
use Rattle.cube.specs.declared.triangle.CubeTriangle.{CubeTriangle}
use Rattle.scan.specs.Meaning.{Meaning}
use Rattle.scan.specs.declared.border.Lacking.{Lacking}
use Rattle.surface.specs.Places.{Solids, kinds_at, low_of}
use Rattle.surface.specs.Laid.{numbered, laid_at}
use Rattle.surface.proofs.Membership.{in_map}
use Rattle.surface.proofs.Faces.{edge_links, triangle_edge}
use Rattle.surface.proofs.Rule.{sound_at}
use Rattle.drawing.specs.Laying.{cube_lays, Halts, Layable, Readable}
use Rattle.drawing.specs.Readings.{CubeRead}
use Rattle.drawing.specs.Solids.{solids_of}
use Rattle.drawing.specs.declared.cube_at.CubeAt.{CubeAt}
use Rattle.drawing.specs.declared.drawing.Drawing.{Drawing}
use Rattle.drawing.specs.declared.progress.Ending.{Ending}
use Rattle.drawing.specs.declared.progress.Ending.TheVariants.{Full}
use Rattle.cube.proofs.LinkNumbers.{link_below}
use Rattle.cube.proofs.Worked.{worked}
use Rattle.drawing.proofs.Lookups.{ok_before}

-- The triangles of a mask that has the kinds of cube n, numbered, are what cube n lays.
pub lays_cube : (m : Meaning) (d : Drawing) (n : ℕ) (low : Voxel) (k : Kinds) (cube : List CubeTriangle)
    → low ≡ low_of d.sides n → k ≡ kinds_at (solids_of d.test m) low → cube ≡ triangles d.pair k
    → map (numbered d.sides low) cube ≡ cube_lays m d n
lays_cube m d n low k cube at kinds rows =
    ap (map (numbered d.sides low)) (rows ∙ ap (triangles d.pair) kinds)
    ∙ ap (laid_at d.sides d.pair (solids_of d.test m)) at

module _ (s : Sides) (p : Pair) (solid : Solids) (low : Voxel) (h : Low s low) where
  layable_rows : Layable s low (triangles p (kinds_at solid low))
  layable_rows t i =
      let k = kinds_at solid low in
      let first = edge_links p k (t.0, t.1) (triangle_edge p k t i (t.0, t.1) (inl refl)) in
      let second = edge_links p k (t.1, t.2) (triangle_edge p k t i (t.1, t.2) (inr (inl refl))) in (
        (link_below t.0 first.0, link_below t.1 first.1, link_below t.2 second.1),
        sound_at s p solid low h (numbered s low t) (in_map (numbered s low) t (triangles p k) i),
      )

  -- They can be laid.
  pub layable : (k : Kinds) (cube : List CubeTriangle) → k ≡ kinds_at solid low → cube ≡ triangles p k → Layable s low cube
  layable k cube kinds rows = subst (Layable s low) (sym (rows ∙ ap (triangles p) kinds)) layable_rows

-- A cube that was read off its scan, and the triangles that its mask has: what it lays, and that it can be laid.
pub record ReadOff (m : Meaning) (d : Drawing) (n : ℕ) (at : CubeAt) (cube : List CubeTriangle) : Type 0 where
  pub readable : Readable m (low_of d.sides n)
  pub rules : map (numbered at.sides at.low) cube ≡ cube_lays m d n
  pub count : length cube ≡ length (cube_lays m d n)
  pub layable : Layable at.sides at.low cube

module _ (m : Meaning) (d : Drawing) (n : ℕ) (at : CubeAt) where
  from_mask : (mask : Mask) (cube : List CubeTriangle) → (at.sides ≡ d.sides) × (at.low ≡ low_of d.sides n)
      → CubeRead d.test m at.low (Ok mask) → cube ≡ triangles d.pair (kinds mask.0) → ReadOff m d n at cube
  from_mask mask cube here read rows =
      let lays = ap (λ s. map (numbered s at.low) cube) here.0 ∙ lays_cube m d n at.low (kinds mask.0) cube here.1 read.1 rows in
      record {
        readable = subst (λ (v : Voxel). Readable m v) here.1 read.0;
        rules = lays;
        count = sym (length-map cube (numbered at.sides at.low)) ∙ ap length lays;
        layable = layable at.sides d.pair (solids_of d.test m) at.low at.inside (kinds mask.0) cube read.1 rows;
      }

  -- By the mask that was read there, its errors mapped.
  pub read_off : (r : Result Mask Lacking) (s : Result Mask Ending) (Q : Lacking → Ending → Type 0) (mask : Mask) (cube : List CubeTriangle)
      → (at.sides ≡ d.sides) × (at.low ≡ low_of d.sides n)
      → s ≡ Ok mask → MatchResult r (λ y. s ≡ Ok y) (λ e. IsErrAnd s (Q e)) → CubeRead d.test m at.low r
      → cube ≡ triangles d.pair (kinds mask.0) → ReadOff m d n at cube
  read_off r s Q mask cube here is mapped read rows =
      from_mask mask cube here (subst (CubeRead d.test m at.low) (ok_before r s Q mask mapped is) read) rows

  -- Where it has more triangles than there are free places, it halts.
  pub halts : (cube : List CubeTriangle) (free : ℕ) (e : Ending) → ReadOff m d n at cube → e ≡ Full (length cube) free → free < length cube → Halts m d n free e
  halts cube free e off is less = subst (Halts m d n free) (sym is) (off.readable, off.count, refl, less)

-- A mask of one kind has no triangles.
pub none_of_one_kind : (p : Pair) (mask : Mask) (b : Bool) (Q : Type 0) → MatchBool b ((mask.0 ≡ 0) ⊎ (mask.0 ≡ 255)) Q → b ≡ true
    → [] ≡ triangles p (kinds mask.0)
none_of_one_kind p mask true Q h e =
    ⊎_elim (λ e. sym (ap (λ n. triangles p (kinds n)) e ∙ worked.hollow p)) (λ e. sym (ap (λ n. triangles p (kinds n)) e ∙ worked.solid p)) h
none_of_one_kind p mask false Q h e = absurd (false≢true e)
