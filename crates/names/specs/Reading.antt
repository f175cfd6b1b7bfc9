-- What a text reads as: the sheet that it spells, or the layer, number and place of its first fault.
-- The whole text passes one layer before the next is looked at: signs, grammar, names.
use Rattle.std.specs.Prelude.{◌≡◌, ℕ, ◌+◌, List, length, Ok, Err, Result}
use Rattle.refusal.specs.declared.Fault.{Fault}
use Rattle.refusal.specs.Table.{number, layer}
use Rattle.formula.specs.Trees as tree
use Rattle.signs.specs.Tokens.{TokAt}
use Rattle.signs.specs.Cutting as signs
use Rattle.grammar.specs.Syntax as written
use Rattle.grammar.specs.Tokens.{tokens}
use Rattle.grammar.specs.Grammar.{IsSheet}
use Rattle.grammar.specs.Refusal as grammar
use Rattle.names.specs.Faults.{Named, FirstFault}
use Rattle.sheet.specs.declared.table.Sheet.{Sheet}
use Rattle.sheet.specs.Sheets.{tree_of, sizes_of}
use Rattle.sheet.specs.Keeping.{size}
use Rattle.names.specs.declared.summary.Contents.{Contents}

-- SpellsSheet text v: the text spells the sheet v, names aside
pub data SpellsSheet (text : List ℕ) : tree.Sheet → Type 0 where
  spelt :
      {ts : List TokAt} {s : written.Sheet} {v : tree.Sheet}
      → signs.Tokenized text ts
      → IsSheet (tokens ts) s
      → Named s v
      → SpellsSheet text v

-- Refused text l n p: the text is refused by the layer l, with the number n, at place p
pub data Refused (text : List ℕ) : (layer number place : ℕ) → Type 0 where
  -- its bytes cannot be cut into tokens
  by_signs :
      {n p : ℕ}
      → signs.Refused text n p
      → Refused text 1 n p
  -- its tokens are no sheet
  by_grammar :
      {ts : List TokAt} {n p : ℕ}
      → signs.Tokenized text ts
      → grammar.Refused (tokens ts) (length text) n p
      → Refused text 2 n p
  -- its names or limits are at fault
  by_names :
      {ts : List TokAt} {s : written.Sheet} {n p : ℕ}
      → signs.Tokenized text ts
      → IsSheet (tokens ts) s
      → FirstFault s n p
      → Refused text 3 n p

-- every text spells at most one sheet, or is refused by one layer with one number at one place, and never both
pub record OneReading (text : List ℕ) : Type 0 where
  pub one_sheet : (u v : tree.Sheet) → SpellsSheet text u → SpellsSheet text v → u ≡ v
  pub one_fault :
      (k l m n p q : ℕ)
      → Refused text k m p
      → Refused text l n q
      → (k ≡ l) × (m ≡ n) × (p ≡ q)
  pub not_both : (v : tree.Sheet) (l n p : ℕ) → SpellsSheet text v → Refused text l n p → ⊥

-- how many fields, rules and formulas a sheet has
abbrev pub Counted : tree.Sheet → Contents → Type 0
Counted (tree.sheet ranges rules mark) c =
    (c.fields ≡ length ranges) × (c.rules ≡ length rules) × (c.formulas ≡ sizes_of rules + size mark)

-- a text that spells a sheet replaces the one before; any other is refused and leaves it
abbrev pub Reads : (text : List ℕ) (before after : Sheet) → Result Contents Fault → Type 0
Reads text before after (Ok c) = SpellsSheet text (tree_of after) × Counted (tree_of after) c
Reads text before after (Err f) =
    Refused text (layer f.refusal) (number f.refusal) f.place × (after ≡ before)
