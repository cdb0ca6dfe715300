-- The graph that the kinds of a cube's voxels leave on its faces. Assumes nothing.
use Rattle.std.specs.Prelude.{ℕ, Bool, true, false, List, [], ◌∷◌, ◌++◌, map, reverse, flat_map}
use Rattle.cube.specs.Cube.{Face, faces, Kinds, solid}
use Rattle.cube.specs.declared.pair.Connectedness.{Connectedness}
use Rattle.cube.specs.declared.pair.Connectedness.TheVariants.{Six, Eighteen, TwentySix}

-- On a walk round a face, a step from solid to hollow is a start, and one from hollow to solid an end.
pub data Mark : Type 0 where
  start : Mark
  end : Mark
  level : Mark

abbrev pub mark : Bool → Bool → Mark
mark true false = start
mark false true = end
mark true true = level
mark false false = level

-- A step of a walk: what it is, and the link that it passes.
pub record Step (L : Type 0) : Type 0 where
  pub is : Mark
  pub link : L

abbrev pub step : {L : Type 0} → Bool → Bool → L → Step L
step a b l = record { is = mark a b; link = l }

module _ {L : Type 0} where
  -- The link of the first end among some steps; none where there is no end.
  abbrev pub first_end : List (Step L) → List L
  first_end [] = []
  first_end (s ∷ ss) = elim s.is [ start ↦ first_end ss | end ↦ s.link ∷ [] | level ↦ first_end ss ]

  -- The steps behind a start in the order in which its end is looked for: the next end where solid is 18- or 26-connected,
  -- the end before it where solid is 6-connected. With one end on the face the two are the same.
  abbrev pub searched : Connectedness → List (Step L) → List (Step L)
  searched Six ss = reverse ss
  searched Eighteen ss = ss
  searched TwentySix ss = ss

  -- The edge from a step to its end, where the step is a start; the others follow it round the face.
  abbrev pub edge_from : Connectedness → Step L → List (Step L) → List (L × L)
  edge_from c s ss = elim s.is [ start ↦ map (λ e. (s.link, e)) (first_end (searched c ss)) | end ↦ [] | level ↦ [] ]

  -- The edges on a face whose four voxels have the kinds a, b, c, d on the walk, over the links that the walk passes.
  abbrev pub round : Connectedness → Bool → Bool → Bool → Bool → L → L → L → L → List (L × L)
  round s a b c d ab bc cd da =
      let p = step a b ab in
      let q = step b c bc in
      let r = step c d cd in
      let t = step d a da in
      edge_from s p (q ∷ r ∷ t ∷ []) ++ (edge_from s q (r ∷ t ∷ p ∷ []) ++ (edge_from s r (t ∷ p ∷ q ∷ []) ++ edge_from s t (p ∷ q ∷ r ∷ [])))

-- The directed edges of the graph on one face of a cube, by the numbers of their links.
abbrev pub graph_on : Connectedness → Kinds → Face → List (ℕ × ℕ)
graph_on s k f =
    round s (solid k f.a) (solid k f.b) (solid k f.c) (solid k f.d) f.ab f.bc f.cd f.da

-- The graph of the cube: the edges on its six faces.
abbrev pub graph : Connectedness → Kinds → List (ℕ × ℕ)
graph s k = flat_map (graph_on s k) faces
