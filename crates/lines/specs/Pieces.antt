-- The pieces that a line is made of, and the bytes of each.
use Rattle.std.specs.Prelude.{ℕ, cond, List, [], ◌∷◌, ◌++◌, map, replicate, codes, decimal, nat_le}
use Rattle.std.specs.List.{flat_map}
use Rattle.lines.specs.declared.piece.Piece.{Piece}
use Rattle.lines.specs.declared.piece.Piece.TheVariants.{Text, Number, Numbers, Blanks, Shown}

-- a number after the first of a mark
abbrev pub slashed : ℕ → List ℕ
slashed n = codes "/" ++ decimal n

-- numbers parted by `/`
abbrev pub parted : List ℕ → List ℕ
parted [] = []
parted (n ∷ ns) = decimal n ++ flat_map slashed ns

-- a byte as it is shown: `?` stands for all but the printed signs, 32 to 126, so that columns stay aligned
abbrev pub shown : ℕ → ℕ
shown b = cond (nat_le 32 b) (cond (nat_le b 126) b 63) 63

-- the bytes of a piece
abbrev pub bytes_of : Piece → List ℕ
bytes_of (Text text) = text.now
bytes_of (Number n) = decimal n
bytes_of (Numbers ns) = parted ns.now
bytes_of (Blanks n) = replicate n 32
bytes_of (Shown text) = map shown text.now

-- the bytes of the pieces, one after another
abbrev pub text_of : List Piece → List ℕ
text_of pieces = flat_map bytes_of pieces
