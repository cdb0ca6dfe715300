-- The laws of the triangles of a cube as one test for each pair, and the laws from the test. Assumes nothing.
use Rattle.std.proofs.Common.{ℕ, Bool, true, false, T, eqb, leb, List, length, get_or, subst, ⊎_elim, eqb→eq, ◌&&◌, ◌||◌}
use Rattle.std.specs.List.{flat_map, list_all, list_any}
use Rattle.cube.specs.Lists.{same, In, Distinct}
use Rattle.cube.specs.Cube.{Face, faces, Kinds, solid, exchange}
use Rattle.cube.specs.Pairs.{of_solid, of_hollow}
use Rattle.cube.specs.Graph.{graph_on}
use Rattle.cube.specs.Loops.{corners}
use Rattle.cube.specs.Cutting.{on_face, together}
use Rattle.cube.specs.Triangles.{triangles}
use Rattle.cube.specs.Joined.{Joined, one, step, connected, reached}
use Rattle.cube.specs.Laws.{edges, corners_of, solid_end, hollow_end, most, Lies}
use Rattle.cube.specs.declared.pair.Connectedness.{Connectedness}
use Rattle.cube.specs.declared.pair.Pair.{Pair}
use Rattle.std.proofs.Math.Facts.{or_yes}
use Rattle.cube.proofs.Listed.{when, every_at, some_at, found, distinct, distinct_is, same_is, same_itself, and_left, and_right}
use Rattle.cube.proofs.Reached.{connected_is, reached_joined}

-- One step leads from a to b, or several do.
abbrev pub near : Connectedness → Kinds → ℕ → ℕ → Bool
near c k a b = connected c a b || get_or (reached c k a) b false

-- Two solid voxels are joined: they are one, or steps lead from one to the other.
abbrev pub meets : Connectedness → Kinds → ℕ → ℕ → Bool
meets c k a b =
    solid k a && solid k b && (eqb a b || near c k a b)

meets_joined : (c : Connectedness) (k : Kinds) (a b : ℕ) → T (meets c k a b) → Joined c k a b
meets_joined c k a b t =
    let solids = and_left (solid k a && solid k b) (eqb a b || near c k a b) t in
    let from-a = and_left (solid k a) (solid k b) solids in
    let to-b = and_right (solid k a) (solid k b) solids in
    let rest = and_right (solid k a && solid k b) (eqb a b || near c k a b) t in
    ⊎_elim (λ h. subst (Joined c k a) (eqb→eq a b h) (one from-a))
    (λ h.
    ⊎_elim (λ n. step (one from-a) (connected_is c a b n) to-b) (reached_joined c k a b)
    (or_yes (connected c a b) (get_or (reached c k a) b false) h))
    (or_yes (eqb a b) (near c k a b) rest)

-- Each edge of the list that lies on a face is an edge of that face's graph.
abbrev on_its_graph : Pair → Kinds → ℕ × ℕ → Face → Bool
on_its_graph p k e f = elim (on_face e.0 e.1 f) [ true ↦ list_any (same e) (graph_on (of_solid p) k f) | false ↦ true ]

abbrev on_graph : Pair → Kinds → List (ℕ × ℕ) → Bool
on_graph p k es = list_all (λ e. list_all (on_its_graph p k e) faces) es

abbrev whole_graph : Pair → Kinds → List (ℕ × ℕ) → Bool
whole_graph p k es = list_all (λ f. list_all (λ e. list_any (same e) es) (graph_on (of_solid p) k f)) faces

abbrev chord_back : List (ℕ × ℕ) → ℕ × ℕ → Bool
chord_back es e = together e.0 e.1 || list_any (same (e.1, e.0)) es

abbrev ends_meet : Pair → Kinds → ℕ × ℕ → Bool
ends_meet p k e =
    meets (of_solid p) k (solid_end k e.0) (solid_end k e.1) && meets (of_hollow p) (exchange k) (hollow_end k e.0) (hollow_end k e.1)

abbrev pub cornered : Kinds → List ℕ → Bool
cornered k ls = list_all (λ l. list_any (eqb l) (corners k)) ls && list_all (λ l. list_any (eqb l) ls) (corners k)

abbrev pub edged : Pair → Kinds → List (ℕ × ℕ) → Bool
edged p k es =
    distinct same same_itself es && (on_graph p k es && (whole_graph p k es && (list_all (chord_back es) es && list_all (ends_meet p k) es)))

abbrev pub sound : Pair → Kinds → Bool
sound p k =
    let ts = triangles p k in
    edged p k (edges ts) && (cornered k (flat_map corners_of ts) && leb (length ts) (most p k))

-- The laws from the tests, for any list of edges.
module _ (p : Pair) (k : Kinds) (es : List (ℕ × ℕ)) where
  abbrev rest₁ : Bool
  rest₁ = on_graph p k es && (whole_graph p k es && (list_all (chord_back es) es && list_all (ends_meet p k) es))

  abbrev rest₂ : Bool
  rest₂ = whole_graph p k es && (list_all (chord_back es) es && list_all (ends_meet p k) es)

  abbrev rest₃ : Bool
  rest₃ = list_all (chord_back es) es && list_all (ends_meet p k) es

  module _ (t : T (edged p k es)) where
    t₁ : T rest₁
    t₁ = and_right (distinct same same_itself es) rest₁ t

    t₂ : T rest₂
    t₂ = and_right (on_graph p k es) rest₂ t₁

    t₃ : T rest₃
    t₃ = and_right (whole_graph p k es) rest₃ t₂

    pub once : Distinct es
    once = distinct_is same same_itself es (and_left (distinct same same_itself es) rest₁ t)

    pub graphed : (e : ℕ × ℕ) → In e es → (f : Face) → In f faces → Lies e f → In e (graph_on (of_solid p) k f)
    graphed e i f j l =
        let at-e = every_at (λ e. list_all (on_its_graph p k e) faces) es (and_left (on_graph p k es) rest₂ t₁) e i in
        let at_f = every_at (on_its_graph p k e) faces at-e f j in
        found same same_is e (graph_on (of_solid p) k f)
        (when (on_face e.0 e.1 f) (list_any (same e) (graph_on (of_solid p) k f)) at_f l)

    pub drawn : (f : Face) → In f faces → (e : ℕ × ℕ) → In e (graph_on (of_solid p) k f) → In e es
    drawn f j e i =
        let at_f = every_at (λ f. list_all (λ e. list_any (same e) es) (graph_on (of_solid p) k f)) faces (and_left (whole_graph p k es) rest₃ t₂) f j in
        found same same_is e es (every_at (λ e. list_any (same e) es) (graph_on (of_solid p) k f) at_f e i)

    pub back : (e : ℕ × ℕ) → In e es → ((f : Face) → In f faces → Lies e f → ⊥) → In (e.1, e.0) es
    back e i off =
        let at-e = every_at (chord_back es) es (and_left (list_all (chord_back es) es) (list_all (ends_meet p k) es) t₃) e i in
        ⊎_elim (λ h. let r = some_at (on_face e.0 e.1) faces h in absurd (off r.0 r.1 r.2))
        (found same same_is (e.1, e.0) es) (or_yes (together e.0 e.1) (list_any (same (e.1, e.0)) es) at-e)

    ends_at : (e : ℕ × ℕ) → In e es → T (ends_meet p k e)
    ends_at = every_at (ends_meet p k) es (and_right (list_all (chord_back es) es) (list_all (ends_meet p k) es) t₃)

    pub solids : (e : ℕ × ℕ) → In e es → Joined (of_solid p) k (solid_end k e.0) (solid_end k e.1)
    solids e i =
        meets_joined (of_solid p) k (solid_end k e.0) (solid_end k e.1)
        (and_left (meets (of_solid p) k (solid_end k e.0) (solid_end k e.1))
        (meets (of_hollow p) (exchange k) (hollow_end k e.0) (hollow_end k e.1)) (ends_at e i))

    pub hollows : (e : ℕ × ℕ) → In e es → Joined (of_hollow p) (exchange k) (hollow_end k e.0) (hollow_end k e.1)
    hollows e i =
        meets_joined (of_hollow p) (exchange k) (hollow_end k e.0) (hollow_end k e.1)
        (and_right (meets (of_solid p) k (solid_end k e.0) (solid_end k e.1))
        (meets (of_hollow p) (exchange k) (hollow_end k e.0) (hollow_end k e.1)) (ends_at e i))

module _ (k : Kinds) (ls : List ℕ) (t : T (cornered k ls)) where
  pub all_cross : (l : ℕ) → In l ls → In l (corners k)
  all_cross l i =
      found eqb eqb→eq l (corners k)
      (every_at (λ l. list_any (eqb l) (corners k)) ls
      (and_left (list_all (λ l. list_any (eqb l) (corners k)) ls) (list_all (λ l. list_any (eqb l) ls) (corners k)) t) l i)

  pub all_met : (l : ℕ) → In l (corners k) → In l ls
  all_met l i =
      found eqb eqb→eq l ls
      (every_at (λ l. list_any (eqb l) ls) (corners k)
      (and_right (list_all (λ l. list_any (eqb l) (corners k)) ls) (list_all (λ l. list_any (eqb l) ls) (corners k)) t) l i)
