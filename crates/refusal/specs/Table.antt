-- The table of returned numbers: every refusal has one number, and the refusals of a text have a layer.
use Rattle.std.specs.Prelude.{ℕ, cond, leb, Some, None, Option}
use Rattle.refusal.specs.declared.layers.Layer.{Layer}
use Rattle.refusal.specs.declared.layers.Layer.TheVariants.{Signs, Grammar, Names}
use Rattle.refusal.specs.declared.Refusal.{Refusal}
use Rattle.refusal.specs.declared.Refusal.TheVariants.{TextTooLong, ByteNotPermitted, OverLimit, TokenNotPermitted, TooDeep, JoinMixes, NameTaken, NameUnknown, WrongTermCount, WrongNumber, TooMany, FieldsDiffer, ListTooShort, TraceUnfit, NotFinished, NotAMark, BadSeed, BufferTooShort, Outside, PairsFull}

-- the number that a refusal returns
abbrev pub number : Refusal → ℕ
number TextTooLong = 1
number ByteNotPermitted = 2
number OverLimit = 3
number TokenNotPermitted = 4
number TooDeep = 5
number JoinMixes = 6
number NameTaken = 7
number NameUnknown = 8
number WrongTermCount = 9
number WrongNumber = 10
number TooMany = 11
number FieldsDiffer = 12
number ListTooShort = 13
number TraceUnfit = 14
number NotFinished = 15
number NotAMark = 16
number BadSeed = 18
number BufferTooShort = 19
number Outside = 20
number PairsFull = 21

-- the layer of the number n: 1 signs (1 to 3), 2 grammar (4 to 6), 3 names (7 to 11), 0 none
abbrev pub layer_of : ℕ → ℕ
layer_of n = cond (leb n 3) 1 (cond (leb n 6) 2 (cond (leb n 11) 3 0))

-- the layer of reading that a refusal belongs to
abbrev pub layer : Refusal → ℕ
layer r = layer_of (number r)

-- the number of a layer
abbrev pub layer_number : Layer → ℕ
layer_number Signs = 1
layer_number Grammar = 2
layer_number Names = 3

-- the number of the layer that is answered, 0 for none
abbrev pub answered : Option Layer → ℕ
answered (Some l) = layer_number l
answered None = 0
