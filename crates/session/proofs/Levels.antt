-- Two laws that ask the same things in the same order come to the same end. Assumes nothing.
use Rattle.std.proofs.Common.{◌⊎◌, inl, inr}

-- Something is asked first: one thing is known where it holds, and another where it does not.
abbrev pub Level : Type 0 → Type 0 → Type 0 → Type 0
Level P A B = (P × A) ⊎ ((P → ⊥) × B)

-- If the one asks what the other asks, both go on the same way.
pub compare : {P P' A A' B B' G : Type 0} → (P → P') → (P' → P) → (P → A → A' → G) → (B → B' → G)
    → Level P A B → Level P' A' B' → G
compare to back holding failing (inl (p, a)) (inl (p', a')) = holding p a a'
compare to back holding failing (inl (p, a)) (inr (none, b)) = absurd (none (to p))
compare to back holding failing (inr (none, b)) (inl (p, a)) = absurd (none (back p))
compare to back holding failing (inr (none, b)) (inr (none', b')) = failing b b'
