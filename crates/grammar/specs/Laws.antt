-- What the grammar promises of every list of tokens.
use Rattle.std.specs.Prelude.{◌≡◌, ℕ, ◌≤◌, ◌⊎◌, List, [], ◌∷◌, ◌++◌}
use Rattle.grammar.specs.Syntax.{Sheet}
use Rattle.grammar.specs.Grammar.{number, at, Tokens, IsSheet}
use Rattle.grammar.specs.Refusal.{Refused}
use Rattle.grammar.specs.Tables.{Rising, WellRead}
use Rattle.grammar.specs.Written.{Writable, write_sheet}

-- a list of tokens is one sheet at most
abbrev pub Unambiguous : Type 0
Unambiguous = (xs : Tokens) (s t : Sheet) → IsSheet xs s → IsSheet xs t → s ≡ t

-- a list of tokens is a sheet, or it is refused
abbrev pub SomeVerdict : Type 0
SomeVerdict =
    (xs : Tokens) (size : ℕ)
    → ((s : Sheet) × IsSheet xs s) ⊎ ((n : ℕ) × (p : ℕ) × Refused xs size n p)

-- no list of tokens is both
abbrev pub NotBoth : Type 0
NotBoth = (xs : Tokens) (size n p : ℕ) (s : Sheet) → IsSheet xs s → Refused xs size n p → ⊥

-- what is refused is refused with one number, at one place
abbrev pub OneRefusal : Type 0
OneRefusal =
    (xs : Tokens) (size n m p q : ℕ)
    → Refused xs size n p → Refused xs size m q → (n ≡ m) × (p ≡ q)

-- every list of tokens is one sheet, or is refused with one number at one place, and not both
abbrev pub OneVerdict : Type 0
OneVerdict = SomeVerdict × NotBoth × Unambiguous × OneRefusal

-- a sheet that is written out is read back
abbrev pub ReadBack : Type 0
ReadBack = (s : Sheet) → Writable s → IsSheet (write_sheet s) s

-- the places of tokens
abbrev pub token_places : Tokens → List ℕ
token_places [] = []
token_places (at t p ∷ xs) = p ∷ token_places xs

-- every number among the tokens is at most 1,023
abbrev pub SmallNumbers : Tokens → Type 0
SmallNumbers xs = (before after : Tokens) (n p : ℕ) → xs ≡ before ++ at (number n) p ∷ after → n ≤ 1023

-- where the places of tokens rise and their numbers are small, so it is in the sheet, which nests at most 16 deep
abbrev pub EverySheetWellRead : Type 0
EverySheetWellRead = (xs : Tokens) (s : Sheet) → IsSheet xs s → Rising (token_places xs) → SmallNumbers xs → WellRead s
