-- Lines on marks, sheets, texts and walks, as lists of bytes, and what a call that makes one leaves in a buffer.
-- Every number stands in decimal without needless zeros, and a line ends with a line feed.
use Rattle.std.specs.Prelude.{◌≡◌, ℕ, ◌<◌, ◌≤◌, List, [], ◌∷◌, ◌++◌, length, drop, Ok, Err, codes, decimal, Result}
use Rattle.refusal.specs.Table.{number, layer}
use Rattle.refusal.specs.declared.Fault.{Fault}
use Rattle.refusal.specs.declared.Refusal.{Refusal}

-- the byte that ends a line
abbrev pub line_feed : List ℕ
line_feed = 10 ∷ []

-- a number after its label
abbrev pub labelled : List ℕ → ℕ → List ℕ
labelled label n = label ++ decimal n

-- a line of three numbers, each after its label
abbrev pub three_text : List ℕ → ℕ → List ℕ → ℕ → List ℕ → ℕ → List ℕ
three_text first m second n third o =
    labelled first m ++ (labelled second n ++ (labelled third o ++ line_feed))

-- `issued N dead N spent N`: the closing figures of a walk
abbrev pub closing_text : ℕ → ℕ → ℕ → List ℕ
closing_text issued dead spent =
    three_text (codes "issued ") issued (codes " dead ") dead (codes " spent ") spent

-- `words N numbers N signs N`: how many tokens of each kind a text has
abbrev pub signs_text : ℕ → ℕ → ℕ → List ℕ
signs_text words numbers signs =
    three_text (codes "words ") words (codes " numbers ") numbers (codes " signs ") signs

-- `fields N rules N formulas N`: how much a sheet has
abbrev pub contents_text : ℕ → ℕ → ℕ → List ℕ
contents_text fields rules formulas =
    three_text (codes "fields ") fields (codes " rules ") rules (codes " formulas ") formulas

-- a line of one number after its label
abbrev pub one_text : List ℕ → ℕ → List ℕ
one_text label n = labelled label n ++ line_feed

-- `allowed N`: a mark that is allowed, and the calls that its reading made
abbrev pub allowed_text : ℕ → List ℕ
allowed_text calls = one_text (codes "allowed ") calls

-- `not allowed N`
abbrev pub not_allowed_text : ℕ → List ℕ
not_allowed_text calls = one_text (codes "not allowed ") calls

-- `spent N`
abbrev pub spent_text : ℕ → List ℕ
spent_text calls = one_text (codes "spent ") calls

-- `refused N`: the number of a refusal
abbrev pub refused_text : Refusal → List ℕ
refused_text r = one_text (codes "refused ") (number r)

-- `fault LAYER NUMBER PLACE`: why and where a text is refused
abbrev pub fault_text : Fault → List ℕ
fault_text f =
    three_text (codes "fault ") (layer f.refusal) (codes " ") (number f.refusal) (codes " ") f.place

-- what follows a number of a mark: `/` and the next number, or the end of the line
abbrev pub further : List ℕ → List ℕ
further [] = line_feed
further (n ∷ ns) = labelled (codes "/") n ++ further ns

-- `N/N/N`: the numbers of a mark; a mark of no numbers is an empty line
abbrev pub mark_text : List ℕ → List ℕ
mark_text [] = line_feed
mark_text (n ∷ ns) = decimal n ++ further ns

-- what a call that makes these bytes answers, and what the buffer that it was handed holds before and after:
-- how many they are, and they stand in front, with the rest as found;
-- or refusal 19, where the buffer is too short, and all of it as found
abbrev pub Made : List ℕ → List ℕ → List ℕ → Result ℕ Refusal → Type 0
Made bytes before after (Ok n) = (n ≡ length bytes) × (n ≤ length before) × (after ≡ bytes ++ drop n before)
Made bytes before after (Err e) = (number e ≡ 19) × (length before < length bytes) × (after ≡ before)
