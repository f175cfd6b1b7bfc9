use Rattle.std.proofs.Common.{◌≡◌, ℕ, ◌+◌, ◌<◌, ◌≤◌, ◌≢◌, [], length, get_or, take, set, replicate, refl, ◌∙◌, ⊎_elim, arith}
use Rattle.std.proofs.lemmas.Result.{err_from_is_err_and}
use Rattle.std.proofs.lemmas.List.{take_all, take_more, take_more_set, length-set, get_or-set_other, get_or-replicate, get_or_past}
use Rattle.std.proofs.str.Laws.{order}
use Rattle.formula.specs.Trees as tree
use Rattle.grammar.specs.Syntax.{Term}
use Rattle.grammar.specs.Tables.{term_of}
use Rattle.formula.specs.declared.term.Term.TheVariants.{Number}
use Rattle.sheet.specs.Table.{SheetTerm, term_of as number_term}
use Rattle.names.specs.Lists.{end}
use Rattle.names.specs.Names.{TermIs}
use Rattle.names.specs.Looking.{fields_seen, params_seen}
use Rattle.names.proofs.Numbering.{no_uses}
use Rattle.names.proofs.Terms.{take_split, each_more, terms_more, terms_first}
use Rattle.names.proofs.scope.Scope.number_terms.Goals as goal

-- four zeros are 0 at every place
zero_terms : (j : ℕ) → 0 ≤ j → get_or {A = SheetTerm} (replicate 4 (Number 0)) j (Number 0) ≡ Number 0
zero_terms j h =
    ⊎_elim (λ k. get_or-replicate 4 j (Number 0) (Number 0) k) (λ k. get_or_past (replicate 4 (Number 0)) j (Number 0) k) (order j 4)

pub loop-i-init : goal.loop-i-init
loop-i-init c = ((refl, zero_terms), λ rs. no_uses, end)

pub returns-in_err-numbered : goal.returns-in_err-numbered
returns-in_err-numbered c =
    let p = err_from_is_err_and c.from_residual.result c.from_residual.ensures.1 in
    let xs = c.args.terms.now in
    let s = take_split xs c.loop-i.i (Number 0) c.loop-i-test.true in
    rw (p.1, p.2)
    (λ rs up.
    terms_first c.args.self.text.now (take c.loop-i.i xs) s.0 (get_or xs c.loop-i.i (Number 0)) xs s.1 up (c.loop-i.invariant.1 rs)
    (c.in_err-numbered.ensures rs))

pub loop-i-preserved : goal.loop-i-preserved
loop-i-preserved c =
    let x = get_or c.args.terms.now c.loop-i.i (Number 0) in
    let text = c.args.self.text.now in
    let len : c.loop-i.i < length c.args.terms.now = omega arith in
    let len' : c.loop-i.i < length c.loop-i.numbered = omega (arith, c.loop-i.invariant.0.0) in
    let e = take_more c.args.terms.now c.loop-i.i (Number 0) len in
    let d = take_more_set c.loop-i.numbered c.loop-i.i c.in_ok-numbered.field-0 len' in
    let R : Term → tree.Term → Type 0 = TermIs (fields_seen c.args.self) (params_seen c.args.self) in (
      (
        length-set c.loop-i.numbered c.loop-i.i c.in_ok-numbered.field-0 ∙ c.loop-i.invariant.0.0,
        λ j h. let other : j ≢ c.loop-i.i = omega arith in
            get_or-set_other c.loop-i.numbered c.loop-i.i j c.in_ok-numbered.field-0 (Number 0) other ∙ c.loop-i.invariant.0.1 j (omega arith),
      ),
      λ rs. terms_more text (take c.loop-i.i c.args.terms.now) x _ e (c.loop-i.invariant.1 rs) (c.in_ok-numbered.ensures rs).0,
      each_more R (term_of text) number_term (take c.loop-i.i c.args.terms.now) (take (c.loop-i.i + 1) c.args.terms.now) x
          (take c.loop-i.i c.loop-i.numbered) (take (c.loop-i.i + 1) (set c.loop-i.numbered c.loop-i.i c.in_ok-numbered.field-0))
          c.in_ok-numbered.field-0 e d c.loop-i.invariant.2 (c.in_ok-numbered.ensures []).1,
    )

pub returns : goal.returns
returns c =
    let xs = c.args.terms.now in
    let at : c.loop-i.i ≡ length xs = omega arith in
    let all = take_all c.loop-i.i xs (omega arith) in
    λ rs up. (
      rw all at (c.loop-i.invariant.1 rs),
      (rw (all, at) at c.loop-i.invariant.2, (c.loop-i.invariant.0.0, λ j h. c.loop-i.invariant.0.1 j (omega arith))),
    )
