-- The reverse of a laid edge is missing just on the faces between drawn and undrawn cubes. Assumes nothing.
use mathlib.Core.Path.{◌≡◌, sym, ap, subst, ◌∙◌}
use mathlib.Core.Logic.{◌⊎◌, inl, inr, ⊎_elim}
use mathlib.Core.List.{List}
use Prim.Native.Nat.{ℕ, ◌≤◌, ◌<◌}
use native.Mathlib.Decide.{dec_lt}
use native.Mathlib.Omega.{arith}
use lib.Dec.{T, T_not, not_T}
use Rattle.grid.specs.Cubes.{Low, cube_count, cube_number}
use Rattle.grid.specs.declared.axis.Axis.TheVariants.{X, Y, Z}
use Rattle.grid.specs.declared.sides.Sides.{Sides}
use Rattle.grid.specs.declared.voxel.Voxel.{Voxel}
use Rattle.cube.specs.Lists.{same, In}
use Rattle.cube.specs.Cube.{Face, faces, link_numbers}
use Rattle.cube.specs.Pairs.{of_solid}
use Rattle.cube.specs.Graph.{graph_on}
use Rattle.cube.specs.Cutting.{on_face, together}
use Rattle.cube.specs.Laws.{edges as cube_edges}
use Rattle.cube.specs.declared.pair.Pair.{Pair}
use Rattle.cube.proofs.Listed.{some_at, found, finds, same_is, same_itself}
use Rattle.cube.proofs.Lawful.{lawful}
use Rattle.surface.specs.Places.{Solids, kinds_at, number_at, low_of}
use Rattle.surface.specs.Laid.{laid, edges_of, edges, back}
use Rattle.surface.specs.Fronts.{OneBorder, Beside, On, OnFront, among, Fronted, OpenAtFront, Closed}
use Rattle.surface.proofs.Membership.{decide, some_in, in_map, map_in}
use Rattle.surface.proofs.Numbered.{after_next, low_is, low_same, low_below, low_back}
use Rattle.surface.proofs.Offsets.{Related}
use Rattle.surface.proofs.Faces.{one_way, edge_differs}
use Rattle.surface.proofs.Ways.{Way, down, up, west, east, south, north, offset_of, face_of, face_in, way_through, placed_once, same_way}
use Rattle.surface.proofs.Turned.{Next, next_to}
use Rattle.surface.proofs.Rims.{across, bare}
use Rattle.surface.proofs.Rule.{numbers_differ}
use Rattle.surface.proofs.Sources.{inner, edge_at, part_from, part_laid, edge_in, in_edge}
use Rattle.surface.proofs.Once.{edge_once, links_in, laid_across, neighbours}

-- A cube and the one to which a way leads share a face.
beside : (w : Way) (u v : Voxel) → Next w u v → Beside u v
beside down u v e = inr (Z, e ∙ after_next Z v)
beside up u v e = inl (Z, e ∙ after_next Z u)
beside west u v e = inr (X, e ∙ after_next X v)
beside east u v e = inl (X, e ∙ after_next X u)
beside south u v e = inr (Y, e ∙ after_next Y v)
beside north u v e = inl (Y, e ∙ after_next Y u)

-- The edge that has both links of a cube.
on_edge : (s : Sides) (u : Voxel) (e : ℕ × ℕ) → On s u e
    → (d : ℕ × ℕ) × In d.0 link_numbers × In d.1 link_numbers × (e ≡ edge_at s u d)
on_edge s u e h =
    let a = map_in (number_at s u) e.0 link_numbers h.0 in
    let b = map_in (number_at s u) e.1 link_numbers h.1 in
    ((a.0, b.0), a.1, b.1, λ n. (a.2 n, b.2 n))

edge_on : (s : Sides) (u : Voxel) (d : ℕ × ℕ) → In d.0 link_numbers × In d.1 link_numbers → On s u (edge_at s u d)
edge_on s u d i = (in_map (number_at s u) d.0 link_numbers i.0, in_map (number_at s u) d.1 link_numbers i.1)

module _ (s : Sides) (p : Pair) (solids : Solids) (n : ℕ) (h : n ≤ cube_count s) where
  abbrev all : List (ℕ × ℕ)
  all = edges (laid s p solids n)

  -- A laid edge: the drawn cube that lays it, and which edge of that cube it is.
  record LaidEdge (e : ℕ × ℕ) : Type 0 where
    cube : ℕ
    drawn : cube < n
    low : Low s (low_of s cube)
    edge : ℕ × ℕ
    edge_of : In edge (cube_edges (inner s p solids (low_of s cube)))
    is : e ≡ edge_at s (low_of s cube) edge

  source : (e : ℕ × ℕ) → In e all → LaidEdge e
  source e i =
      let a = part_from s p solids edges_of e n i in
      let c = a.0 in
      let lt : c < n = a.1 in
      let x = edge_in s p solids (low_of s c) e a.2 in
      record { cube = c; drawn = lt; low = low_is s c (omega arith); edge = x.0; edge_of = x.1; is = x.2 }

  -- What a drawn cube lays is laid.
  lays : (c : ℕ) → c < n → (d : ℕ × ℕ) → In d (cube_edges (inner s p solids (low_of s c))) → In (edge_at s (low_of s c) d) all
  lays c lt d i =
      part_laid s p solids edges_of (edge_at s (low_of s c) d) n c lt (in_edge s p solids (low_of s c) d i)

  -- An edge on a face that leads to a cube of the scan: its reverse is laid, or that cube is undrawn.
  beyond : (e : ℕ × ℕ) (l : LaidEdge e) (w : Way) → In l.edge (graph_on (of_solid p) (kinds_at solids (low_of s l.cube)) (face_of w))
      → (v : Voxel) → Low s v → Related (offset_of w) (low_of s l.cube) v → In (back e) all ⊎ OnFront s n e
  beyond e l w i v hv r =
      let u = low_of s l.cube in
      let a = laid_across s p solids w u v r l.edge i in
      go (cube_number s v) (dec_lt (cube_number s v) n) (low_below s v hv) (low_back s v hv) a.0 a.2 (a.3 ∙ sym (ap back l.is))
    where
      go : (m : ℕ) → Dec (m < n) → m < cube_count s → low_of s m ≡ v → (g : ℕ × ℕ) → In g (cube_edges (inner s p solids v))
          → edge_at s v g ≡ back e → In (back e) all ⊎ OnFront s n e
      go m (yes lt) hm at g j q =
          inl
          (subst (λ x. In x all) (ap (λ x. edge_at s x g) at ∙ q)
          (lays m lt g (subst (λ x. In g (cube_edges (inner s p solids x))) (sym at) j)))
      go m (no not-lt) hm at g j q =
          let u = low_of s l.cube in
          let o = edge_on s v g (links_in s p solids v g j) in
          let on-v : On s v (back (edge_at s v g)) = (o.1, o.0) in
          inr
          (record {
            drawn = l.cube;
            undrawn = m;
            before = l.drawn;
            after = omega arith;
            cube = hm;
            between =
                record {
                  beside = subst (Beside u) (sym at) (beside w u v (next_to w u v r));
                  first = subst (On s u) (sym l.is) (edge_on s u l.edge (links_in s p solids u l.edge l.edge_of));
                  second = subst (λ x. On s x e) (sym at) (subst (On s v) (ap back q) on-v);
                };
          })

  -- The reverse of a laid edge is laid, or the edge lies on the front.
  laid_or_front : OneBorder s solids → (e : ℕ × ℕ) → In e all → In (back e) all ⊎ OnFront s n e
  laid_or_front one e i =
      let l = source e i in
      let d = l.edge in
      ⊎_elim (λ t. let f = some_at (on_face d.0 d.1) faces t in faced l f.0 f.1 f.2)
      (λ off. inl (chord l (λ f j lies. off (some_in (on_face d.0 d.1) f faces j lies)))) (decide (together d.0 d.1))
    where
      chord : (l : LaidEdge e) → ((f : Face) → In f faces → T (on_face l.edge.0 l.edge.1 f) → ⊥) → In (back e) all
      chord l off =
          let u = low_of s l.cube in
          subst (λ x. In x all) (sym (ap back l.is))
          (lays l.cube l.drawn (back l.edge) ((lawful p (kinds_at solids u)).chord l.edge l.edge_of off))

      faced : (l : LaidEdge e) (f : Face) → In f faces → T (on_face l.edge.0 l.edge.1 f) → In (back e) all ⊎ OnFront s n e
      faced l f j lies =
          let u = low_of s l.cube in
          let k = kinds_at solids u in
          let w = way_through f j in
          let g = subst (λ f. In l.edge (graph_on (of_solid p) k f)) w.1 ((lawful p k).on_graph l.edge l.edge_of f j lies) in
          ⊎_elim (λ a. beyond e l w.0 g a.0 a.1 a.2)
          (λ r. absurd (subst (In l.edge) (bare s (of_solid p) solids u w.0 one r) g)) (across s u l.low w.0)

  -- Two drawn cubes that share two links with an undrawn one are one cube.
  drawn_once : (v a b : Voxel) → Low s v → Low s a → Low s b → (v ≡ a → ⊥) → (v ≡ b → ⊥) → (d x y : ℕ × ℕ)
      → In d.0 link_numbers × In d.1 link_numbers → In x.0 link_numbers × In x.1 link_numbers
      → In y.0 link_numbers × In y.1 link_numbers → (d.0 ≡ d.1 → ⊥) → edge_at s v d ≡ edge_at s a x → edge_at s v d ≡ edge_at s b y → a ≡ b
  drawn_once v a b hv ha hb va vb d x y ld lx ly two ex ey =
      let wa = neighbours s p solids v a hv ha va d x ld lx two ex in
      let wb = neighbours s p solids v b hv hb vb d y ld ly two ey in
      let same = same_way d.0 d.1 ld.0 ld.1 two wa.0 wb.0 wa.2 wb.2 in
      placed_once (offset_of wb.0) v a b (subst (λ o. Related o v a) same wa.1) wb.1

  -- Different cubes have different low voxels.
  elsewhere : (c d : ℕ) → c < n → n ≤ d → d < cube_count s → low_of s d ≡ low_of s c → ⊥
  elsewhere c d lc ld hd q =
      let hc : c < cube_count s = omega arith in
      let e = low_same s d c hd hc q in
      omega arith

  -- Where an undrawn cube has both links of a laid edge, no drawn cube lays the reverse.
  none_back : (e : ℕ × ℕ) → In e all → OnFront s n e → In (back e) all → ⊥
  none_back e i o j =
      let l = source e i in
      let b = source (back e) j in
      let u = low_of s l.cube in
      let x = low_of s b.cube in
      let v = low_of s o.undrawn in
      let hv = low_is s o.undrawn o.cube in
      let dv = on_edge s v e o.between.second in
      let ld = links_in s p solids u l.edge l.edge_of in
      let lb = links_in s p solids x b.edge b.edge_of in
      let vu = elsewhere l.cube o.undrawn l.drawn o.after o.cube in
      let vx = elsewhere b.cube o.undrawn b.drawn o.after o.cube in
      let two : dv.0.0 ≡ dv.0.1 → ⊥ = λ q.
      numbers_differ s p solids u l.low l.edge l.edge_of
      (ap (λ m. m.0) (sym l.is ∙ dv.3) ∙ ap (number_at s v) q ∙ ap (λ m. m.1) (sym dv.3 ∙ l.is)) in
      let same : x ≡ u =
      drawn_once v x u hv b.low l.low vx vu dv.0 (back b.edge) l.edge (dv.1, dv.2) (lb.1, lb.0) ld two
      (sym dv.3 ∙ ap back b.is) (sym dv.3 ∙ l.is) in
      let drawn = subst (λ y. In b.edge (cube_edges (inner s p solids y))) same b.edge_of in
      let is : edge_at s u b.edge ≡ edge_at s u (back l.edge) = sym (ap (λ y. edge_at s y b.edge) same) ∙ sym b.is ∙ ap back l.is in
      let turned = edge_once s p solids u l.low b.edge (back l.edge) lb (ld.1, ld.0) is in
      let w = neighbours s p solids u v l.low hv (λ q. vu (sym q)) l.edge dv.0 ld (dv.1, dv.2)
      (edge_differs p (kinds_at solids u) l.edge l.edge_of) (sym l.is ∙ dv.3) in
      one_way p (kinds_at solids u) (face_of w.0) (face_in w.0) l.edge
      ((lawful p (kinds_at solids u)).on_graph l.edge l.edge_of (face_of w.0) (face_in w.0) w.2)
      (subst (λ y. In y (cube_edges (inner s p solids u))) turned drawn)

  pub fronted : OneBorder s solids → Fronted s p solids n
  fronted one =
      record {
        missing = λ e i t.
            ⊎_elim (λ j. absurd (T_not (among all (back e)) t (finds same same_itself (back e) all j))) (λ o. o) (laid_or_front one e i);
        front = λ e i o. not_T (among all (back e)) (λ t. none_back e i o (found same same_is (back e) all t));
      }

pub open_at_front : OpenAtFront
open_at_front = fronted

pub closed : Closed
closed s p solids one e i =
    ⊎_elim (λ j. j) (λ o. absurd (none_left o.undrawn (cube_count s) o.after o.cube))
    (laid_or_front s p solids (cube_count s) (omega arith) one e i)
  where
    none_left : (m n : ℕ) → n ≤ m → m < n → ⊥
    none_left m n a b = omega arith
