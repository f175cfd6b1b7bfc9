-- The three layers together: the layer of each number, and that a text has one reading.
use Rattle.std.proofs.Common.{◌≡◌, ℕ, List, length, Ok, Err, Result, sym, refl, subst}
use Rattle.refusal.specs.declared.Fault.{Fault}
use Rattle.refusal.specs.Table.{number, layer_of}
use Rattle.formula.specs.Trees as tree
use Rattle.signs.specs.Tokens.{TokAt}
use Rattle.signs.specs.Cutting.{FaultHere, nothing_begins, over_limit, Tokenized}
use Rattle.signs.specs.Cutting as signs
use Rattle.signs.proofs.Once as signs_once
use Rattle.grammar.specs.Syntax as written
use Rattle.grammar.specs.Syntax.{Word, Field, Rule, Mark}
use Rattle.grammar.specs.Tokens.{tokens}
use Rattle.grammar.specs.Grammar.{Tok, Tokens, IsSheet}
use Rattle.grammar.specs.Refusal as grammar
use Rattle.grammar.specs.declared.table.Table.{Table}
use Rattle.grammar.specs.Answers.{Parsed}
use Rattle.grammar.proofs.Verdict as grammar_verdict
use Rattle.grammar.proofs.WellRead.{well_read_lem}
use Rattle.names.specs.Faults.{Faulty, in_field, in_rule, in_mark, FieldFault, field_taken, wrong_range, many_fields, RuleFault, rule_taken, param_taken, rule_formula, many_rules, rule_passes, MarkFault, mark_formula, mark_passes, FirstFault, Named, Use, UseFault, unknown_name, unknown_rule, wrong_terms, zero_weight}
use Rattle.names.specs.Reading.{SpellsSheet, spelt, Refused, by_signs, by_grammar, by_names, OneReading}
use Rattle.names.specs.Layers.{Tabled}
use Rattle.names.proofs.TextTokens.{rising, small_numbers}
use Rattle.names.proofs.Verdict.{one_verdict_lem}

-- layers

fault_layer : {bytes : List ℕ} {n : ℕ} → FaultHere bytes n → layer_of n ≡ 1
fault_layer (nothing_begins h none) = refl
fault_layer (over_limit x over) = refl

pub signs_layer : {text : List ℕ} {n p : ℕ} → signs.Refused text n p → layer_of n ≡ 1
signs_layer (signs.too_long h) = refl
signs_layer (signs.not_cut h r) = fault_layer r.fault

why_layer : {before : Tokens} {t : Tok} {n : ℕ} → grammar.Why before t n → layer_of n ≡ 2
why_layer (grammar.not_permitted h) = refl
why_layer (grammar.too_deep s o) = refl
why_layer (grammar.mixes j e s) = refl

pub grammar_layer : {xs : Tokens} {size n p : ℕ} → grammar.Refused xs size n p → layer_of n ≡ 2
grammar_layer (grammar.at_token before after e b s why) = why_layer why
grammar_layer (grammar.at_end b none) = refl

use_layer : {fs : List Field} {rs : List Rule} {ps : List Word} {u : Use} {n p : ℕ} → UseFault fs rs ps u n p → layer_of n ≡ 3
use_layer (unknown_name h) = refl
use_layer (unknown_rule h) = refl
use_layer (wrong_terms h k) = refl
use_layer zero_weight = refl

field_layer : {above : List Field} {f : Field} {n p : ℕ} → FieldFault above f n p → layer_of n ≡ 3
field_layer (field_taken h) = refl
field_layer (wrong_range h) = refl
field_layer (many_fields h) = refl

rule_layer : {fs : List Field} {above : List Rule} {r : Rule} {n p : ℕ} → RuleFault fs above r n p → layer_of n ≡ 3
rule_layer (rule_taken h) = refl
rule_layer (param_taken s h) = refl
rule_layer (rule_formula h) = use_layer h.2
rule_layer (many_rules h) = refl
rule_layer (rule_passes h) = refl

mark_layer : {fs : List Field} {rs : List Rule} {m : Mark} {n p : ℕ} → MarkFault fs rs m n p → layer_of n ≡ 3
mark_layer (mark_formula h) = use_layer h.2
mark_layer (mark_passes h) = refl

pub names_layer : {s : written.Sheet} {n p : ℕ} → Faulty s n p → layer_of n ≡ 3
names_layer (in_field s h) = field_layer h
names_layer (in_rule s h) = rule_layer h
names_layer (in_mark h) = mark_layer h

-- one reading

module _ (text : List ℕ) where
  -- the tokens of the text are one list
  same_tokens : {ts us : List TokAt} → Tokenized text ts → Tokenized text us → ts ≡ us
  same_tokens {ts} {us} a b = (signs_once.one_verdict_lem text).one_cut ts us a b

  not_signs : {ts : List TokAt} {n p : ℕ} → Tokenized text ts → signs.Refused text n p → ⊥
  not_signs {ts} {n} {p} a r = (signs_once.one_verdict_lem text).not_both ts n p a r

  -- the sheet as written is one
  same_sheet :
      {ts us : List TokAt} {s u : written.Sheet}
      → Tokenized text ts
      → Tokenized text us
      → IsSheet (tokens ts) s
      → IsSheet (tokens us) u
      → s ≡ u
  same_sheet {ts} {us} {s} {u} a b d e =
      (grammar_verdict.one_verdict_lem).2 (tokens ts) s u d (subst (λ l. IsSheet (tokens l) u) (sym (same_tokens a b)) e)

  not_grammar :
      {ts us : List TokAt} {s : written.Sheet} {n p : ℕ}
      → Tokenized text ts
      → Tokenized text us
      → IsSheet (tokens ts) s
      → grammar.Refused (tokens us) (length text) n p
      → ⊥
  not_grammar {ts} {us} {s} {n} {p} a b d r =
      (grammar_verdict.one_verdict_lem).1 (tokens ts) (length text) n p s d
      (subst (λ l. grammar.Refused (tokens l) (length text) n p) (sym (same_tokens a b)) r)

  one_sheet : (u v : tree.Sheet) → SpellsSheet text u → SpellsSheet text v → u ≡ v
  one_sheet u v (spelt {s = s} a d n) (spelt b e m) =
      (one_verdict_lem s).1 u v n (subst (λ x. Named x v) (sym (same_sheet a b d e)) m)

  one_fault :
      (k l m n p q : ℕ)
      → Refused text k m p
      → Refused text l n q
      → (k ≡ l) × (m ≡ n) × (p ≡ q)
  one_fault k l m n p q (by_signs r) (by_signs s) =
      let e = (signs_once.one_verdict_lem text).one_fault m n p q r s in (refl, e.0, e.1)
  one_fault k l m n p q (by_signs r) (by_grammar b s) = absurd (not_signs b r)
  one_fault k l m n p q (by_signs r) (by_names b d f) = absurd (not_signs b r)
  one_fault k l m n p q (by_grammar a r) (by_signs s) = absurd (not_signs a s)
  one_fault k l m n p q (by_grammar {ts = ts} a r) (by_grammar b s) =
      let e = (grammar_verdict.one_verdict_lem).3 (tokens ts) (length text) m n p q r
      (subst (λ x. grammar.Refused (tokens x) (length text) n q) (sym (same_tokens a b)) s) in
      (refl, e.0, e.1)
  one_fault k l m n p q (by_grammar a r) (by_names b d f) = absurd (not_grammar b a d r)
  one_fault k l m n p q (by_names a d f) (by_signs s) = absurd (not_signs a s)
  one_fault k l m n p q (by_names a d f) (by_grammar b s) = absurd (not_grammar a b d s)
  one_fault k l m n p q (by_names {s = s} a d f) (by_names b e g) =
      let h = (one_verdict_lem s).2 m p n q f (subst (λ x. FirstFault x n q) (sym (same_sheet a b d e)) g) in
      (refl, h.0, h.1)

  not_both : (v : tree.Sheet) (l n p : ℕ) → SpellsSheet text v → Refused text l n p → ⊥
  not_both v l n p (spelt a d h) (by_signs r) = not_signs a r
  not_both v l n p (spelt a d h) (by_grammar b r) = not_grammar a b d r
  not_both v l n p (spelt {s = s} a d h) (by_names b e f) =
      (one_verdict_lem s).3 v n p h (subst (λ x. FirstFault x n p) (sym (same_sheet a b d e)) f)

  pub one_reading : OneReading text
  one_reading = record { one_sheet = one_sheet; one_fault = one_fault; not_both = not_both }

-- the first two layers

pub signs_refused : {text : List ℕ} {n p : ℕ} → signs.Refused text n p → Refused text (layer_of n) n p
signs_refused {text} {n} {p} r = subst (λ l. Refused text l n p) (sym (signs_layer r)) (by_signs r)

pub tabled : (text : List ℕ) (ts : List TokAt) (r : Result Table Fault) → Tokenized text ts → Parsed text r → Tabled text r
tabled text ts (Ok t) a h =
    let parsed = h ts a.cut in
    record {
      ts = ts;
      cut = a;
      sheet = parsed.0;
      is = parsed.1;
      holds = parsed.2;
      well = well_read_lem (tokens ts) parsed.0 parsed.1 (rising a.cut) (small_numbers a.cut);
    }
tabled text ts (Err f) a h =
    let r = h ts a.cut in
    subst (λ l. Refused text l (number f.refusal) f.place) (sym (grammar_layer r)) (by_grammar a r)

-- the third

pub names_refused :
    {text : List ℕ} {ts : List TokAt} {s : written.Sheet} {n p : ℕ}
    → Tokenized text ts
    → IsSheet (tokens ts) s
    → FirstFault s n p
    → Refused text (layer_of n) n p
names_refused {text} {n = n} {p} a d f = subst (λ l. Refused text l n p) (sym (names_layer f.fault)) (by_names a d f)
