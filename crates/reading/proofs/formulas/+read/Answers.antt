use Rattle.std.proofs.Common.{◌≡◌, sym, ℕ, ◌≤◌, ◌<◌, ◌≢◌, length, take, ap, ◌∙◌, ap₂, subst, subst₂, arith, rules}
use Rattle.std.proofs.lemmas.List.{length-take-le}
use Rattle.sheet.specs.Keeping.{known_terms}
use Rattle.sheet.specs.Table.{line_at}
use Rattle.sheet.specs.Sheets.{lines_in}
use Rattle.sheet.proofs.Lines.{rule_in_lines}
use Rattle.reading.specs.Steps.{Read}
use Rattle.reading.proofs.Entries.{parts_as, terms_known, call_kept, numbers_enough, numbers_count}
use Rattle.reading.proofs.Entries.{read_compare, read_uncalled, read_called, read_not, read_not_out}
use Rattle.reading.proofs.Entries.{at_entry, read_pick}
use Rattle.reading.proofs.Entries.{read_left_out, read_left, read_right, differ, agree}
use Rattle.reading.proofs.formulas.+read.Goals as goal

-- a comparison

pub of_term-requires : goal.of_term-requires
of_term-requires t c =
    (terms_known c.args.sheet.now c.args.line c.args.node c.requires.within
    c.requires.fields c.requires.params c.in-Compare.is).0

pub of_term-requires-in-Compare : goal.of_term-requires-in-Compare
of_term-requires-in-Compare t c =
    (terms_known c.args.sheet.now c.args.line c.args.node c.requires.within
    c.requires.fields c.requires.params c.in-Compare.is).1

pub returns-in-Compare-clause-read : goal.returns-in-Compare-clause-read
returns-in-Compare-clause-read t c =
    read_compare c.args.line c.requires.within c.in-Compare.is
    c.of_term.ensures c.of_term-in-Compare.ensures c.holds.ensures

-- a call

pub returns-in_err-fuel-in-Call-clause-read : goal.returns-in_err-fuel-in-Call-clause-read
returns-in_err-fuel-in-Call-clause-read t c =
    let spent = c.in_err-fuel-in-Call.ensures in
    rw c.from_residual.ensures
    (read_uncalled c.args.line c.requires.within c.in-Call.is (grind (arith, spent)))

pub of_terms-passed-requires : goal.of_terms-passed-requires
of_terms-passed-requires t c =
    let k = call_kept c.args.sheet.now c.args.line c.args.node c.requires.within c.in-Call.is in
    record {
      long = k.long;
      known =
          ap₂ (λ (x y : ℕ). known_terms x y c.in-Call.terms) c.requires.fields c.requires.params
          ∙ k.known;
    }

pub bounds-deref-rule : goal.bounds-deref-rule
bounds-deref-rule t c =
    let k = call_kept c.args.sheet.now c.args.line c.args.node c.requires.within c.in-Call.is in
    omega (arith, k.below, ap length c.deref.ensures.0)

pub slice_bounds-passed-end : goal.slice_bounds-passed-end
slice_bounds-passed-end t c =
    let k = call_kept c.args.sheet.now c.args.line c.args.node c.requires.within c.in-Call.is in
    rw c.from-count.ensures (numbers_enough k _ _ c.of_terms-passed.result c.of_terms-passed.ensures)

pub slice_bounds-args-end : goal.slice_bounds-args-end
slice_bounds-args-end t c =
    let k = call_kept c.args.sheet.now c.args.line c.args.node c.requires.within c.in-Call.is in
    let enough = numbers_enough k _ _ c.of_terms-passed.result c.of_terms-passed.ensures in
    sym (length-take-le c.from-count.result _ (rw c.from-count.ensures enough))

pub read-requires : goal.read-requires
read-requires t c =
    let k = call_kept c.args.sheet.now c.args.line c.args.node c.requires.within c.in-Call.is in
    let s = c.args.sheet.now in
    let r = c.from-rule.result in
    let below : r < length s.rules.items = omega (arith, k.below, c.from-rule.ensures) in
    let line = s.lines_kept r (omega (arith, below)) in
    let same : c.from-body.result ≡ (line_at (lines_in s) r).body =
    c.from-body.ensures ∙ ap (λ ls. (line_at ls r).body) c.deref.ensures.0
    ∙ sym (ap (λ l. l.body) (rule_in_lines s.rules.items s.mark r below)) in
    let count : length (take c.from-count.result c.of_terms-passed.result) ≡ (line_at (lines_in s) r).params =
    ap (λ n. length (take n c.of_terms-passed.result)) c.from-count.ensures
    ∙ numbers_count k _ _ c.of_terms-passed.result c.of_terms-passed.ensures
    ∙ ap (λ i. (line_at (lines_in s) i).params) (sym c.from-rule.ensures) in (
      search (rules, line, same),
      ((omega (arith, below), omega (arith, line.1, same), omega (arith, same)), (c.requires.fields, count)),
    )

pub returns-in_ok-fuel-in-Call-clause-read : goal.returns-in_ok-fuel-in-Call-clause-read
returns-in_ok-fuel-in-Call-clause-read t c =
    let body : c.from-body.result ≡ (line_at c.args.sheet.now.rules.items c.in-Call.rule).body =
    c.from-body.ensures ∙ ap₂ (λ ls i. (line_at ls i).body) c.deref.ensures.0 c.from-rule.ensures in
    read_called c.args.line c.requires.within c.of_terms-passed.result c.in-Call.is
    c.in_ok-fuel-in-Call.ensures c.of_terms-passed.ensures
    (subst₂ (λ n i. Read c.args.sheet.now c.args.numbers.now.mark.now (take n c.of_terms-passed.result) i
    c.in_ok-fuel-in-Call.field-0 c.read.result c.read.new.fuel) c.from-count.ensures body c.read.ensures.read)

-- `not`

pub read-requires-in-Not : goal.read-requires-in-Not
read-requires-in-Not t c =
    let p = parts_as c.args.sheet.now c.args.line c.args.node c.requires.within c.in-Not.is in
    search (rules, p)

pub returns-in_err-read-in-Not-clause-read : goal.returns-in_err-read-in-Not-clause-read
returns-in_err-read-in-Not-clause-read t c =
    let h = c.in_err-read-in-Not.ensures in
    read_not_out c.args.line c.requires.within c.in-Not.is c.from_residual-in_err-read-in-Not.ensures
    (at_entry c.from.ensures h.read)

pub returns-in_ok-read-in-Not-clause-read : goal.returns-in_ok-read-in-Not-clause-read
returns-in_ok-read-in-Not-clause-read t c =
    let h = c.in_ok-read-in-Not.ensures in
    read_not c.args.line c.requires.within c.in-Not.is (at_entry c.from.ensures h.read)

-- `pick`

pub read-requires-in-Pick : goal.read-requires-in-Pick
read-requires-in-Pick t c =
    let p = parts_as c.args.sheet.now c.args.line c.args.node c.requires.within c.in-Pick.is in
    search (rules, p)

pub returns-in-Pick-clause-read : goal.returns-in-Pick-clause-read
returns-in-Pick-clause-read t c =
    let h = c.read-in-Pick.ensures in
    read_pick c.args.line c.requires.within c.in-Pick.is (at_entry c.from-in-Pick.ensures h.read)

-- a join

pub read-requires-in-Join : goal.read-requires-in-Join
read-requires-in-Join t c =
    let p = parts_as c.args.sheet.now c.args.line c.args.node c.requires.within c.in-Join.is in
    search (rules, p)

pub returns-in_err-result-in-Join-clause-read : goal.returns-in_err-result-in-Join-clause-read
returns-in_err-result-in-Join-clause-read t c =
    let h = c.in_err-result-in-Join.ensures in
    read_left_out c.args.line c.requires.within c.in-Join.is
    c.from_residual-in_err-result-in-Join.ensures (at_entry c.from-in-Join.ensures h.read)

pub read-requires-else-result-wants : goal.read-requires-else-result-wants
read-requires-else-result-wants t c =
    let p = parts_as c.args.sheet.now c.args.line c.args.node c.requires.within c.in-Join.is in
    let h : c.read-in-Join.new.fuel ≤ c.args.fuel.now = c.in_ok-result-in-Join.ensures.falls in
    search (rules, p, h)

pub returns-then-result-wants-clause-read : goal.returns-then-result-wants-clause-read
returns-then-result-wants-clause-read t c =
    let h = c.in_ok-result-in-Join.ensures in
    read_left c.args.line c.requires.within c.in-Join.is
    (subst (λ b. c.in_ok-result-in-Join.result ≢ b) c.wants.ensures (differ _ _ c.if-result-wants.true))
    (at_entry c.from-in-Join.ensures h.read)

pub returns-else-result-wants-clause-read : goal.returns-else-result-wants-clause-read
returns-else-result-wants-clause-read t c =
    let h = c.in_ok-result-in-Join.ensures in
    let g = c.read-else-result-wants.ensures in
    read_right c.args.line c.requires.within c.in-Join.is
    (agree _ _ c.if-result-wants.false ∙ c.wants.ensures) (at_entry c.from-in-Join.ensures h.read)
    (at_entry c.from-else-result-wants.ensures g.read)
