use Rattle.std.proofs.Common.{length}
use Rattle.tray.proofs.digits.+write_digits.Given as goal

abbrev pub decreases-write_digits : goal.decreases-write_digits
decreases-write_digits l = length l.bytes.now
