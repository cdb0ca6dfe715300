-- What a tray of either kind means: what the tray inside it means. Assumes nothing.
use Rattle.std.specs.Prelude.{ℕ, ◌^◌, ◌<◌, ◌≤◌}
use Rattle.tray.specs.declared.any_tray.AnyTray.{AnyTray}
use Rattle.tray.specs.declared.any_tray.AnyTray.TheVariants.{Records, Text}
use Rattle.tray.specs.Buffers.{text_holds, TextKeeps, text_lawful}
use Rattle.tray.specs.Holding.{Held, Lawful, places}
use Rattle.tray.specs.Records.{record_holds, record_lawful, RecordKeeps}

-- The triangles and the free places of the tray inside.
abbrev pub any_holds : AnyTray → Held
any_holds (Records s) = record_holds s
any_holds (Text s) = text_holds s

-- The tray stays of its kind, and keeps what that kind keeps.
abbrev pub AnyKeeps : ℕ → AnyTray → AnyTray → Type 0
AnyKeeps n (Records s) (Records t) = RecordKeeps n s t
AnyKeeps n (Text s) (Text t) = TextKeeps n s t
AnyKeeps n (Records s) (Text t) = ⊥
AnyKeeps n (Text s) (Records t) = ⊥

any_fits : (s : AnyTray) → places (any_holds s) < 2 ^ 64
any_fits (Records s) = record_lawful.fits s
any_fits (Text s) = text_lawful.fits s

any_stays : (n : ℕ) (s : AnyTray) → AnyKeeps n s s
any_stays n (Records s) = record_lawful.stays n s
any_stays n (Text s) = text_lawful.stays n s

any_steps : (m n k : ℕ) (s t u : AnyTray) → m ≤ k → n ≤ k → AnyKeeps m s t → AnyKeeps n t u → AnyKeeps k s u
any_steps m n k (Records s) (Records t) (Records u) p q h j = record_lawful.steps m n k s t u p q h j
any_steps m n k (Text s) (Text t) (Text u) p q h j = text_lawful.steps m n k s t u p q h j
any_steps m n k (Records s) (Text t) u p q h j = absurd h
any_steps m n k (Text s) (Records t) u p q h j = absurd h
any_steps m n k (Records s) (Records t) (Text u) p q h j = absurd j
any_steps m n k (Text s) (Text t) (Records u) p q h j = absurd j

-- It meets what every tray owes, as each kind does.
pub any_lawful : Lawful any_holds AnyKeeps
any_lawful = record { fits = any_fits; stays = any_stays; steps = any_steps }
