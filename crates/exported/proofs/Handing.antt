-- What was drawn is handed over, whatever its form. Assumes nothing.
use Rattle.std.proofs.Common.{◌≡◌, ℕ, ◌*◌, ◌/◌, List, ◌++◌, length, drop, Ok, subst}
use Rattle.scan.specs.Blocks.{block_means}
use Rattle.tray.specs.declared.triangle.Triangle.{Triangle}
use Rattle.exported.specs.Drawings.{DrawStarted, Drew, Written}
use Rattle.exported.specs.declared.asking.Asking.{Asking}
use Rattle.exported.specs.declared.opening.Opened.{Opened}
use Rattle.exported.specs.declared.told.Told.{Told}

-- Triangles that were drawn into as many places as what was lent has, and stand written over its front.
pub handed_over : (width : ℕ) (write : List Triangle → List ℕ) (a : Asking) (values before after : List ℕ) (o : Opened) (told : Told) (places : ℕ) (ts : List Triangle)
    → DrawStarted a values (Ok o) → places ≡ length before / width
    → Drew (block_means o.block.sides o.block.values.items) o.drawing a.budget places told ts
    → after ≡ write ts ++ drop (width * length ts) before → Written width write a values before told after
handed_over width write a values before after o told places ts started e drew written =
    let m = block_means o.block.sides o.block.values.items in
    record {
      budgeted = started.0;
      scan = m;
      shows = started.2.0;
      drawing = o.drawing;
      opened = started.2.1;
      triangles = ts;
      drew = subst (λ n. Drew m o.drawing a.budget n told ts) e drew;
      handed = written;
    }
