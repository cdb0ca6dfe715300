-- What holds of every cube, from one test that is computed at each of the 256 kinds. Assumes nothing.
use Rattle.std.proofs.Common.{Bool, true, false, T, ◌&&◌}
use Rattle.cube.specs.Cube.{Kinds}
use Rattle.cube.specs.Everywhere.{either, kinds_of, all_kinds, each}
use Rattle.cube.specs.declared.pair.Connectedness.{Connectedness}
use Rattle.cube.specs.declared.pair.Connectedness.TheVariants.{Six, Eighteen, TwentySix}
use Rattle.cube.proofs.Listed.{and_left, and_right}

pub either_at : (f : Bool → Bool) → T (either f) → (b : Bool) → T (f b)
either_at f t true = and_left (f true) (f false) t
either_at f t false = and_right (f true) (f false) t

pub everywhere : (test : Kinds → Bool) → T (all_kinds test) → (k : Kinds) → T (test k)
everywhere test t k =
    let t0 = either_at (λ a. either λ b. either λ c. either λ d. either λ e. either λ f. either λ g. either λ h. test (kinds_of a b c d e f g h)) t k.v0 in
    let t1 = either_at (λ b. either λ c. either λ d. either λ e. either λ f. either λ g. either λ h. test (kinds_of k.v0 b c d e f g h)) t0 k.v1 in
    let t2 = either_at (λ c. either λ d. either λ e. either λ f. either λ g. either λ h. test (kinds_of k.v0 k.v1 c d e f g h)) t1 k.v2 in
    let t3 = either_at (λ d. either λ e. either λ f. either λ g. either λ h. test (kinds_of k.v0 k.v1 k.v2 d e f g h)) t2 k.v3 in
    let t4 = either_at (λ e. either λ f. either λ g. either λ h. test (kinds_of k.v0 k.v1 k.v2 k.v3 e f g h)) t3 k.v4 in
    let t5 = either_at (λ f. either λ g. either λ h. test (kinds_of k.v0 k.v1 k.v2 k.v3 k.v4 f g h)) t4 k.v5 in
    let t6 = either_at (λ g. either λ h. test (kinds_of k.v0 k.v1 k.v2 k.v3 k.v4 k.v5 g h)) t5 k.v6 in
    either_at (λ h. test (kinds_of k.v0 k.v1 k.v2 k.v3 k.v4 k.v5 k.v6 h)) t6 k.v7

pub each_at : (test : Connectedness → Bool) → T (each test) → (c : Connectedness) → T (test c)
each_at test t Six = and_left (test Six) (test Eighteen) (and_left (test Six && test Eighteen) (test TwentySix) t)
each_at test t Eighteen = and_right (test Six) (test Eighteen) (and_left (test Six && test Eighteen) (test TwentySix) t)
each_at test t TwentySix = and_right (test Six && test Eighteen) (test TwentySix) t

-- A test of a cube that is computed under each connectedness.
pub everywhere_each : (test : Connectedness → Kinds → Bool) → T (all_kinds (λ k. each λ c. test c k)) → (c : Connectedness) (k : Kinds) → T (test c k)
everywhere_each test t c k = each_at (λ c. test c k) (everywhere (λ k. each λ c. test c k) t k) c
