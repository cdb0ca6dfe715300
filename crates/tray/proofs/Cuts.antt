-- Lists cut in two. Assumes nothing.
use Rattle.std.proofs.Common.{◌≡◌, ℕ, List, ◌++◌, length, take, drop, sym, ap, ◌∙◌}
use Rattle.std.proofs.lemmas.List.{take_at, drop_at}

-- Two cuts of one list at one place have the same parts.
pub same_parts : {X : Type 0} (ws xs ys zs : List X) (n : ℕ) → length ws ≡ n → length ys ≡ n → ws ++ xs ≡ ys ++ zs → (ws ≡ ys) × (xs ≡ zs)
same_parts ws xs ys zs n p q e =
    (sym (take_at ws xs n p) ∙ ap (take n) e ∙ take_at ys zs n q, sym (drop_at ws xs n p) ∙ ap (drop n) e ∙ drop_at ys zs n q)
