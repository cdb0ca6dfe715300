-- What a text tray means, and the bytes that it stands over. Assumes nothing.
use Rattle.std.specs.Prelude.{ℕ, ◌-◌, ◌*◌, ◌/◌, List, vec_items, vec_len}
use Rattle.std.proofs.Common.{arith}
use Rattle.tray.specs.declared.text_tray.TextTray.{TextTray}
use Rattle.tray.specs.Holding.{Held, Lawful}
use Rattle.tray.specs.Pasts.{StaysPast, stays_both, stays_past}
use Rattle.tray.specs.Texts.{spelled_by, spelled_few}

-- The bytes, whole.
abbrev pub bytes_of : TextTray → List ℕ
bytes_of s = vec_items s.bytes

-- The triangles that its lines spell, and a free place for each whole 27 bytes besides.
abbrev pub text_holds : TextTray → Held
text_holds s = record { list = spelled_by s.held (bytes_of s); free = vec_len s.bytes / 27 - s.held }

-- The bytes are as many as they were and in the same memory, and those past the first n lines are the same.
abbrev pub TextKeeps : ℕ → TextTray → TextTray → Type 0
TextKeeps n before after = StaysPast (27 * n) before.bytes after.bytes

-- Its places fit a machine word, since its bytes do.
pub text_lawful : Lawful text_holds TextKeeps
text_lawful = record {
  fits = λ s. omega (arith, s.spells.within, s.bytes.ok, s.bytes.small, spelled_few s.held (bytes_of s));
  stays = λ n s. stays_past (27 * n) s.bytes;
  steps = λ m n k s t u p q h j. stays_both (27 * m) (27 * n) (27 * k) s.bytes t.bytes u.bytes (omega arith) (omega arith) h j;
}
