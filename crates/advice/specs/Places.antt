-- Where a place of a text stands, as a person counts: in which line, and in which column of it, both from 1.
-- A line ends where its line feed stands. A place past the end of the text counts as its end.
use Rattle.std.specs.Prelude.{◌≡◌, ℕ, ◌+◌, ◌-◌, ◌<◌, ◌≤◌, min, Bool, not, ◌≢◌, List, length, take, drop, count_by, ◌==◌, slice_index}
use Rattle.std.specs.List.{suffix_len, prefix_len, between}

-- the byte is a line feed
abbrev pub is_line_feed : ℕ → Bool
is_line_feed b = b == 10

-- the byte is any other
abbrev pub is_in_line : ℕ → Bool
is_in_line b = not (is_line_feed b)

-- the number of the place's line: one more than the line feeds before the place
abbrev pub number_of_line : List ℕ → ℕ → ℕ
number_of_line text place = count_by is_line_feed (take place text) + 1

-- where the place's line begins: back from the place over every byte but a line feed
abbrev pub start_of_line : List ℕ → ℕ → ℕ
start_of_line text place = length (take place text) - suffix_len is_in_line (take place text)

-- where it ends: on from the place over every byte but a line feed
abbrev pub end_of_line : List ℕ → ℕ → ℕ
end_of_line text place = length (take place text) + prefix_len is_in_line (drop place text)

-- the column of the place: one more than the bytes between the start of its line and the place
abbrev pub column : List ℕ → ℕ → ℕ
column text place = length (take place text) - start_of_line text place + 1

-- the bytes of the place's line
abbrev pub line_of : List ℕ → ℕ → List ℕ
line_of text place = between (start_of_line text place) (end_of_line text place) text

-- the bytes from `start` up to `end` are the line in which the place lies: no line feed stands among them,
-- and one stands right before them and right after them, unless the text begins or ends there
pub record LineAt (text : List ℕ) (place start end : ℕ) : Type 0 where
  pub holds : (start ≤ min place (length text)) × (min place (length text) ≤ end) × (end ≤ length text)
  pub unbroken : (k : ℕ) → start ≤ k → k < end → slice_index text k ≢ 10
  pub begins : start ≢ 0 → slice_index text (start - 1) ≡ 10
  pub ends : end ≢ length text → slice_index text end ≡ 10

-- every place lies in one line, from `start_of_line` to `end_of_line`, and in no other
abbrev pub OneLine : List ℕ → ℕ → Type 0
OneLine text place =
    LineAt text place (start_of_line text place) (end_of_line text place)
    × ((start end : ℕ)
    → LineAt text place start end
    → (start ≡ start_of_line text place) × (end ≡ end_of_line text place))
