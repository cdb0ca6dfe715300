-- Which three numbers are the corners of a triangle. Assumes nothing.
use Rattle.std.specs.Prelude.{ℕ, ◌<◌, ◌≢◌}
use Rattle.std.proofs.Math.Logic.Dec
use Rattle.std.proofs.Math.Decide.{dec_lt, ℕ_discrete}

-- A link number is below 50,331,648, three for each voxel of the largest scan.
abbrev pub Below : ℕ → ℕ → ℕ → Type 0
Below a b c = (a < 50331648) × (b < 50331648) × (c < 50331648)

-- No two corners of a triangle are on one link.
abbrev pub Differ : ℕ → ℕ → ℕ → Type 0
Differ a b c = (a ≢ b) × (b ≢ c) × (c ≢ a)

-- Three numbers are the corners of a triangle if they are different link numbers.
abbrev pub Corners : ℕ → ℕ → ℕ → Type 0
Corners a b c = Below a b c × Differ a b c

all_three : {P Q R : Type 0} → Dec P → Dec Q → Dec R → Dec (P × Q × R)
all_three (yes p) (yes q) (yes r) = yes (p, q, r)
all_three (yes p) (yes q) (no r) = no (λ h. r h.2)
all_three (yes p) (no q) d = no (λ h. q h.1)
all_three (no p) e d = no (λ h. p h.0)

-- Whether they are can be told.
pub corners? : (a b c : ℕ) → Dec (Corners a b c)
corners? a b c =
    Dec.and
    (all_three (dec_lt a 50331648) (dec_lt b 50331648) (dec_lt c 50331648))
    (all_three (Dec.not (ℕ_discrete a b)) (Dec.not (ℕ_discrete b c)) (Dec.not (ℕ_discrete c a)))
