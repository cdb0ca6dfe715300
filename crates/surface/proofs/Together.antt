-- All laws of the whole surface hold together. Assumes nothing.
use Rattle.cube.proofs.Outward.{outward}
use Rattle.surface.specs.Places.{kinds_at, low_of}
use Rattle.surface.specs.Whole.{AllWhole}
use Rattle.surface.proofs.Rule.{laid_by_rule}
use Rattle.surface.proofs.Once.{laid_once}
use Rattle.surface.proofs.Front.{open_at_front}
use Rattle.surface.proofs.Ends.{all_joined}
use Rattle.surface.proofs.Corners.{all_cornered}
use Rattle.surface.proofs.Mirror.{mirrored}

pub all_whole : AllWhole
all_whole s p solid n h =
    record {
      rule = laid_by_rule s p solid n h;
      once = laid_once s p solid n h;
      front = open_at_front s p solid n h;
      ends = all_joined s p solid n h;
      corners = all_cornered s p solid n h;
      mirror = mirrored s p solid n;
      fronts = λ c below. outward p (kinds_at solid (low_of s c));
    }
