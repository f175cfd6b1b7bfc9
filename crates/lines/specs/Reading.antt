-- A mark's line read back: the numbers that stand in it. No two marks share a line.
use Rattle.std.specs.Prelude.{◌≡◌, ℕ, ◌+◌, ◌-◌, ◌*◌, ◌^◌, ◌<◌, cond, List, [], ◌∷◌, ◌++◌, Some, None, Option}
use Rattle.std.specs.Option.{unwrap_or, option_to_list}
use Rattle.std.specs.Char.{is_ascii_digit}
use Rattle.std.specs.List.{AllByRecursion}
use Rattle.lines.specs.Lines.{mark_text}

-- the numbers that stand in the bytes; `begun` is what the digits just before them come to, if there are any
abbrev pub numbers_on : Option ℕ → List ℕ → List ℕ
numbers_on begun [] = option_to_list begun
numbers_on begun (b ∷ bs) =
    cond (is_ascii_digit b)
    (numbers_on (Some (10 * unwrap_or begun 0 + (b - 48))) bs)
    (option_to_list begun ++ numbers_on None bs)

-- the numbers that stand in a line: the values of its unbroken runs of digits, in their order
abbrev pub numbers_of : List ℕ → List ℕ
numbers_of line = numbers_on None line

-- every mark whose numbers fit 64 bits is read back from its line
abbrev pub ReadBack : Type 0
ReadBack = (mark : List ℕ) → AllByRecursion (λ n. n < 2 ^ 64) mark → numbers_of (mark_text mark) ≡ mark

-- no two such marks share a line, the mark of no numbers among them
abbrev pub LinesDiffer : Type 0
LinesDiffer =
    (m n : List ℕ)
    → AllByRecursion (λ k. k < 2 ^ 64) m
    → AllByRecursion (λ k. k < 2 ^ 64) n
    → mark_text m ≡ mark_text n
    → m ≡ n
