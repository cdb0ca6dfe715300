-- What a record tray means, and the list that it stands over. Assumes nothing.
use Rattle.std.specs.Prelude.{ℕ, ◌-◌, List, take, vec_items, vec_len}
use Rattle.std.proofs.Common.{arith, length-take}
use Rattle.tray.specs.declared.record_tray.RecordTray.{RecordTray}
use Rattle.tray.specs.declared.triangle.Triangle.{Triangle}
use Rattle.tray.specs.Holding.{Held, Lawful}
use Rattle.tray.specs.Pasts.{StaysPast, stays_both, stays_past}

-- The list, whole.
abbrev pub records_of : RecordTray → List Triangle
records_of s = vec_items s.list

-- The records in front, and a free place for each that stands behind them.
abbrev pub record_holds : RecordTray → Held
record_holds s = record { list = take s.held (records_of s); free = vec_len s.list - s.held }

-- The records are as many as they were and in the same memory, and those past the first n are the same.
abbrev pub RecordKeeps : ℕ → RecordTray → RecordTray → Type 0
RecordKeeps n before after = StaysPast n before.list after.list

-- Its places fit a machine word, since its records do.
pub record_lawful : Lawful record_holds RecordKeeps
record_lawful = record {
  fits = λ s. omega (arith, s.within, s.list.ok, s.list.small, length-take s.held (records_of s));
  stays = λ n s. stays_past n s.list;
  steps = λ m n k s t u p q h j. stays_both m n k s.list t.list u.list p q h j;
}
