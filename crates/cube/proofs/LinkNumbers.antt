-- The twelve links of a cube, by their numbers. Assumes nothing.
use Rattle.std.proofs.Common.{ℕ, ◌<◌, eqb, ltb, eqb→eq, ltb→lt}
use Rattle.std.specs.List.{list_any}
use Rattle.cube.specs.Lists.{In}
use Rattle.cube.specs.Cube.{link_numbers}
use Rattle.cube.proofs.Listed.{every_at, found}
use Rattle.cube.proofs.Masks.{at}

-- A number below twelve is that of a link.
pub link_in : (l : ℕ) → l < 12 → In l link_numbers
link_in l h = found eqb eqb→eq l link_numbers (at (λ n. list_any (eqb n) link_numbers) 12 tt l h)

-- The number of a link is below twelve.
pub link_below : (l : ℕ) → In l link_numbers → l < 12
link_below l i = ltb→lt l 12 (every_at (λ k. ltb k 12) link_numbers tt l i)
