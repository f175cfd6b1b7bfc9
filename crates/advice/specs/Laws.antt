-- What the lines of a message are good for.
use Rattle.std.specs.Prelude.{◌≡◌, ℕ, ◌-◌, ◌<◌, min, ◌≢◌, List, length, slice_index, slice_index_or}
use Rattle.lines.specs.Pieces.{shown}
use Rattle.advice.specs.Message.{shown_text, marker_text}
use Rattle.advice.specs.Places.{number_of_line, column}

-- line and column name the place: no other place of the text has both
abbrev pub OnePlace : List ℕ → ℕ → Type 0
OnePlace text place =
    (other : ℕ)
    → number_of_line text other ≡ number_of_line text place
    → column text other ≡ column text place
    → min other (length text) ≡ min place (length text)

-- printed below the line, the mark `^` (94) stands under the byte at the place, if the line has one there
pub record StandsUnder (text : List ℕ) (place : ℕ) : Type 0 where
  pub mark : slice_index_or (marker_text text place) (column text place - 1) 0 ≡ 94
  pub above :
      place < length text
      → slice_index text place ≢ 10
      → slice_index (shown_text text place) (column text place - 1) ≡ shown (slice_index text place)
