-- Each byte of a text tray is known after a list of calls. Assumes nothing.
use Rattle.std.specs.Prelude.{◌≡◌, ℕ, ◌*◌, List, ◌++◌, length, drop, slice_index_or}
use Rattle.scan.specs.Meaning.{Meaning}
use Rattle.tray.specs.Buffers.{bytes_of, text_holds, TextKeeps}
use Rattle.tray.specs.Texts.{text_of}
use Rattle.tray.specs.declared.text_tray.TextTray.{TextTray}
use Rattle.session.specs.Keeping.{Kept, Standing, start_on, RunsOn}
use Rattle.session.specs.Ways.{calls_of}
use Rattle.session.specs.declared.call.Entry.{Entry}

-- A text tray that is kept has the text of what it now holds in front, and behind it the bytes that stood there before.
abbrev pub Overwritten : Type 0
Overwritten =
    (before after : TextTray) → Kept text_holds TextKeeps before after
    → bytes_of after ≡ text_of (text_holds after).list ++ drop (27 * length (text_holds after).list) (bytes_of before)

-- Two lists of text trays that, tray by tray, hold the same and have the same bytes.
pub record SameTexts (ts us : List TextTray) : Type 0 where
  pub many : length us ≡ length ts
  pub held : (t : ℕ) (d : TextTray) → text_holds (slice_index_or us t d) ≡ text_holds (slice_index_or ts t d)
  pub bytes : (t : ℕ) (d : TextTray) → bytes_of (slice_index_or us t d) ≡ bytes_of (slice_index_or ts t d)

-- The same calls on the same scan leave the same bytes in text trays that had the same bytes and held the same.
abbrev pub SameBytes : Meaning → List Meaning → Type 0
SameBytes m others =
    (ts us : List TextTray) (es es' : List Entry) (s s' : Standing TextTray) → SameTexts ts us → calls_of es' ≡ calls_of es
    → RunsOn m others text_holds TextKeeps (start_on ts) es s
    → RunsOn m others text_holds TextKeeps (start_on us) es' s'
    → SameTexts s.trays s'.trays
