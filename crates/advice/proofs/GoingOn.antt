-- Whether a text can go on to a sheet, by how it is parsed.
use Rattle.std.proofs.Common.{◌≡◌, ℕ, ◌+◌, ◌<◌, ◌↔◌, is_ok, Ok, Err, Result, List, [], ◌∷◌, ◌++◌, length, Decides, sym, refl, ap, ◌∙◌, subst, append_assoc, append-nil, arith, length-append, length-drop}
use Rattle.signs.specs.Tokens.{TokAt}
use Rattle.refusal.specs.declared.Fault.{Fault}
use Rattle.signs.specs.Cutting.{Cut, stop, gap, token, Tokenized, too_long, not_cut}
use Rattle.signs.specs.Cutting.{Refused as Uncut}
use Rattle.signs.specs.Laws.{OneVerdict}
use Rattle.signs.proofs.Once.{takes_some, fault_some}
use Rattle.grammar.specs.Syntax.{Sheet}
use Rattle.grammar.specs.Grammar.{Tok, at, Tokens, strict, SheetBy, IsSheet}
use Rattle.grammar.specs.Refusal.{Begins, Refused, at_token, at_end}
use Rattle.grammar.specs.Answers.{Parsed}
use Rattle.grammar.specs.Tokens.{tokens}
use Rattle.grammar.specs.declared.table.Table.{Table}
use Rattle.grammar.proofs.Verdict.{one_verdict_lem}
use Rattle.advice.specs.Permitted.{GoesOn, WholeSheet}
use Rattle.advice.specs.Reading.{IsRead}
use Rattle.std.proofs.lemmas.Bool.{false≢true}

-- the place of each token lies in the text
inside :
    {p : ℕ} {bytes rest : List ℕ} {ts : List TokAt}
    → Cut p bytes ts rest
    → (before after : Tokens) (t : Tok) (q : ℕ)
    → tokens ts ≡ before ++ at t q ∷ after
    → q < p + length bytes
inside stop [] after t q e = let z : ◌≡◌ {A = ℕ} 0 1 = cc in omega arith
inside stop (x ∷ before) after t q e = let z : ◌≡◌ {A = ℕ} 0 1 = cc in omega arith
inside (gap h c) before after t q e = let r = inside c before after t q e in omega arith
inside (token {p = p} t' h c) [] after t q e = let s = takes_some t' in let i : p ≡ q = cc in omega arith
inside (token {w = w} {after = left} t' h c) (x ∷ before) after t q e =
    let r = inside c before after t q (cc) in
    let l = ap length t'.split ∙ length-append w left in
    omega (arith, l)

-- tokens that are refused at one of them cannot go on
stops :
    {xs : Tokens} (before after : Tokens) (t : Tok) (p : ℕ)
    → xs ≡ before ++ at t p ∷ after
    → ((q : ℕ) × (more : Tokens) × (s : Sheet) × SheetBy strict (before ++ at t q ∷ more) s → ⊥)
    → Begins strict xs
    → ⊥
stops {xs} before after t p e never (more, s, by) =
    never (
      p,
      after ++ more,
      s,
      subst (λ q. SheetBy strict q s) (ap (λ q. q ++ more) e ∙ append_assoc before (at t p ∷ after) more) by,
    )

-- a text that is parsed is a sheet, and so can go on
read_whole :
    (text : List ℕ) (ts : List TokAt) (s : Sheet)
    → Tokenized text ts
    → IsSheet (tokens ts) s
    → WholeSheet text × GoesOn text
read_whole text ts s cut is = (
  (ts, cut, (s, is)),
  (ts, cut, ([], s, subst (λ q. SheetBy strict q s) (sym (append-nil (tokens ts))) is)),
)

-- one that is refused can go on exactly when it is refused at its end
goes_on_refused :
    (text : List ℕ) (ts : List TokAt) (n q : ℕ)
    → OneVerdict text
    → Tokenized text ts
    → Refused (tokens ts) (length text) n q
    → (q ≡ length text) ↔ GoesOn text
goes_on_refused text ts n q one cut (at_token {t = t} before after e b never why) = (
  λ is. let r = inside cut.cut before after t q e in absurd (omega (arith, r, is)),
  λ g. absurd
      (stops before after t q e never (subst (λ us. Begins strict (tokens us)) (one.one_cut g.0 ts g.1 cut) g.2)),
)
goes_on_refused text ts n q one cut (at_end b none) = (λ is. (ts, cut, b), λ g. refl)

-- and is no sheet
whole_refused :
    (text : List ℕ) (ts : List TokAt) (n q : ℕ)
    → OneVerdict text
    → Tokenized text ts
    → Refused (tokens ts) (length text) n q
    → WholeSheet text
    → ⊥
whole_refused text ts n q one cut r (us, cut', (s, is)) =
    one_verdict_lem.1 (tokens ts) (length text) n q s
    (subst (λ vs. IsSheet (tokens vs) s) (one.one_cut us ts cut' cut) is) r

pub read_parsed :
    (text : List ℕ) (ts : List TokAt) (r : Result Table Fault)
    → OneVerdict text
    → Tokenized text ts
    → Parsed text r
    → IsRead text r
read_parsed text ts (Ok table) one cut parsed =
    let sheet = parsed ts cut.cut in read_whole text ts sheet.0 cut sheet.1
read_parsed text ts (Err fault) one cut parsed =
    let refused = parsed ts cut.cut in
    (whole_refused text ts _ _ one cut refused, goes_on_refused text ts _ _ one cut refused)

-- a text that is not cut is refused before its end
uncut_inside : (text : List ℕ) (n q : ℕ) → Uncut text n q → q < length text
uncut_inside text n q (too_long long) = long
uncut_inside text n q (not_cut short from) = omega (arith, fault_some from.fault, length-drop q text)

pub read_uncut :
    (text : List ℕ) (n q : ℕ)
    → OneVerdict text
    → Uncut text n q
    → (WholeSheet text → ⊥) × ((q ≡ length text) ↔ GoesOn text)
read_uncut text n q one uncut = (
  λ w. one.not_both w.0 n q w.1 uncut,
  (λ is. absurd (omega (arith, uncut_inside text n q uncut, is)), λ g. absurd (one.not_both g.0 n q g.1 uncut)),
)

pub whole_read : (text : List ℕ) (r : Result Table Fault) → IsRead text r → Decides (is_ok r) (WholeSheet text)
whole_read text (Ok table) read = (λ _. read.0, λ _. refl)
whole_read text (Err fault) read = (λ is. absurd (false≢true is), λ w. absurd (read.0 w))
