-- Advice on a refusal for the person who wrote the text: what is wrong there, and what would be right.
use Rattle.std.specs.Prelude.{ℕ, List, ◌++◌, codes}
use Rattle.refusal.specs.declared.Refusal.{Refusal}
use Rattle.refusal.specs.declared.Refusal.TheVariants.{TextTooLong, ByteNotPermitted, OverLimit, TokenNotPermitted, TooDeep, JoinMixes, NameTaken, NameUnknown, WrongTermCount, WrongNumber, TooMany, FieldsDiffer, ListTooShort, TraceUnfit, NotFinished, NotAMark, BadSeed, BufferTooShort, Outside, PairsFull}

-- what is said where it is not the text that is refused
abbrev pub no_fault : List ℕ
no_fault = codes "this is not a fault of the text"

-- the advice on each refusal
abbrev pub advice : Refusal → List ℕ
advice TextTooLong =
    codes "the text is too long: "
    ++ codes "a sheet has at most 32768 bytes, and this byte is past them; leave something out"
advice ByteNotPermitted =
    codes "this byte may not stand here: "
    ++ codes "use small letters, digits, blanks, line feeds and ( ) , ; : + - = /= < <= > >=, and / only as part of /="
advice OverLimit =
    codes "this word or number is over its limit: "
    ++ codes "a word has at most 16 letters and digits; a number has at most four digits and is at most 1023"
advice TokenNotPermitted =
    codes "this may not stand here, or something is missing before it: "
    ++ codes "lines are `field NAME LOW HIGH ;`, `rule NAME ( NAMES ) : FORMULA ;`, and last `mark FORMULA ;`"
advice TooDeep =
    codes "this opens a 17th level: "
    ++ codes "brackets round a formula, `not` and `pick` nest at most 16 deep; move a part into a rule and call it"
advice JoinMixes =
    codes "this join mixes with another: "
    ++ codes "at one level all joins are `and`, or all are `or`; put brackets round the parts that belong together"
advice NameTaken =
    codes "this name is taken: "
    ++ codes "no two fields or rules share a name, and a parameter differs from them and its rule's other parameters"
advice NameUnknown =
    codes "this name is unknown here or of the wrong kind: "
    ++ codes "compare or pick a field or a parameter of this rule; call this rule or one above it"
advice WrongTermCount =
    codes "this call has too few or too many terms: "
    ++ codes "it takes one term for each parameter of the rule, parted by commas"
advice WrongNumber =
    codes "this number does not fit here: "
    ++ codes "the LOW of a field is not above its HIGH, and a weight after a join is 1 to 1023"
advice TooMany =
    codes "this line passes a limit: "
    ++ codes "at most 8 fields, 16 rules, 4 parameters to a rule, 16 joins to a line and 256 formulas in all"
advice FieldsDiffer = no_fault
advice ListTooShort = no_fault
advice TraceUnfit = no_fault
advice NotFinished = no_fault
advice NotAMark = no_fault
advice BadSeed = no_fault
advice BufferTooShort = no_fault
advice Outside = no_fault
advice PairsFull = no_fault
