use Rattle.std.proofs.Common.{length, refl, ap, arith, rules}
use Rattle.std.proofs.lemmas.Result.{err_from_is_err_and}
use Rattle.grammar.specs.Parsing.{read_to, level_of, fixed_closing}
use Rattle.grammar.proofs.Leaves.{no, real, not_true}
use Rattle.grammar.proofs.Entering.{grown_none}
use Rattle.grammar.proofs.Formulas.{measured_from}
use Rattle.grammar.proofs.Units.{unit_within, unit_within_stops, formula_within, formula_within_stops, within_measured, number_unit, name_unit, not_unit, not_stops, pick_unit, pick_name_stops, pick_stops, bracket_unit, bracket_stops, unclosed_stops, unit_stops, deep_not, deep_pick, deep_bracket, alone_formula, first_stops, mixed_stops, weights_stop, right_stops, join_formula}
use Rattle.grammar.proofs.formula_part.+read_formula_read_unit.Goals as goal

pub read_formula-returns-in_err-left : goal.read_formula-returns-in_err-left
read_formula-returns-in_err-left t c =
    let q = err_from_is_err_and c.from_residual.result c.from_residual.ensures.1 in
    rw (q.1, q.2) (record {
      grown = search rules;
      measured = tt;
      value = λ text e.
          let l = c.in_err-left.ensures.value text e in
          (l.0, first_stops text c.args.depth c.args.cursor.now.at (level_of c.args.level) c.args.table.now c.args.table.now _ l.1);
    })

pub read_formula-returns-in_default : goal.read_formula-returns-in_default
read_formula-returns-in_default t c =
    record {
      grown = c.read_unit.ensures.grown;
      measured = c.in_ok-left.ensures.measured;
      value = λ text e.
          let l = c.in_ok-left.ensures.value text e in (
            l.0,
            alone_formula text c.args.depth c.args.cursor.now.at (level_of c.args.level) _ c.peek-ahead.result l.1 (c.peek-ahead.ensures.sees text l.0) c.in_default.not-Join,
          );
    }

pub read_formula-returns-then-not-fits : goal.read_formula-returns-then-not-fits
read_formula-returns-then-not-fits t c =
    rw c.at.ensures (record {
      grown = search rules;
      measured = tt;
      value = λ text e.
          let l = c.in_ok-left.ensures.value text e in (
            l.0,
            mixed_stops text c.args.depth c.args.cursor.now.at (level_of c.args.level) _ l.1 c.peek-ahead.result (c.peek-ahead.ensures.sees text l.0) c.in-Join.join c.in-Join.is
                (λ z. not_true (c.if-not-fits.ensures.1 z)),
          );
    })

pub read_formula-returns-in_err-weights : goal.read_formula-returns-in_err-weights
read_formula-returns-in_err-weights t c =
    let q = err_from_is_err_and c.from_residual-in_err-weights.result c.from_residual-in_err-weights.ensures.1 in
    rw (q.1, q.2) (record {
      grown = search rules;
      measured = tt;
      value = λ text e.
          let l = c.in_ok-left.ensures.value text e in
          let w = c.in_err-weights.ensures text l.0 in (
            w.0,
            weights_stop text c.args.depth c.args.cursor.now.at (level_of c.args.level) _ l.1 c.peek-ahead.result (c.peek-ahead.ensures.sees text l.0) c.in-Join.join c.in-Join.is _
                (c.if-not-fits.ensures.0 refl) w.1,
          );
    })

pub read_formula-returns-in_err-right : goal.read_formula-returns-in_err-right
read_formula-returns-in_err-right t c =
    let q = err_from_is_err_and c.from_residual-in_err-right.result c.from_residual-in_err-right.ensures.1 in
    rw (q.1, q.2) (record {
      grown = search rules;
      measured = tt;
      value = λ text e.
          let l = c.in_ok-left.ensures.value text e in
          let w = c.in_ok-weights.ensures text l.0 in
          let r = c.in_err-right.ensures.value text w.0 in (
            r.0,
            right_stops text c.args.depth c.args.cursor.now.at (level_of c.args.level) _ l.1 c.peek-ahead.result (c.peek-ahead.ensures.sees text l.0) c.in-Join.join c.in-Join.is _ _
                (c.if-not-fits.ensures.0 refl) w.1 r.1,
          );
    })

pub read_formula-returns : goal.read_formula-returns
read_formula-returns t c =
    record {
      grown = search rules;
      measured =
          let text = c.args.cursor.now.text.now in
          let left = c.in_ok-left.ensures in
          let right = c.in_ok-right.ensures in
          let l = left.value text refl in
          let w = c.in_ok-weights.ensures text l.0 in
          let is = c.in-Join.is in
          let a = real text _ c.peek-ahead.result (c.peek-ahead.ensures.sees text l.0) (λ e. no (cc)) in
          let m = left.measured in
          let n = right.measured in
          (omega arith, omega (arith, m.1, a.0, w.1.0, n.1), omega (arith, m.2, n.2));
      value =
          let left = c.in_ok-left.ensures in
          let right = c.in_ok-right.ensures in
          let is = c.in-Join.is in
          λ text e.
          let l = left.value text e in
          let w = c.in_ok-weights.ensures text l.0 in
          let r = right.value text w.0 in (
            r.0,
            join_formula text c.args.depth c.args.cursor.now.at (level_of c.args.level) _ l.1 c.peek-ahead.result (c.peek-ahead.ensures.sees text l.0) c.in-Join.join is _ _
                (c.if-not-fits.ensures.0 refl) w.1 right.grown r.1 c.push-body.ensures,
          );
    }

pub read_unit-returns-in_err-allowed-in-Not : goal.read_unit-returns-in_err-allowed-in-Not
read_unit-returns-in_err-allowed-in-Not t c =
    let q = err_from_is_err_and c.from_residual.result c.from_residual.ensures.1 in
    let a = c.in_err-allowed-in-Not.ensures in
    rw (q.1, q.2) (record {
      grown = search rules;
      measured = tt;
      value = λ text e. (
        e,
        deep_not text c.args.depth c.args.cursor.now.at c.args.table.now c.args.table.now c.peek-ahead.result (c.peek-ahead.ensures.sees text e) _ a.1 c.in-Not.is a.0,
      );
    })

pub read_unit-returns-in_err-allowed-in-Pick : goal.read_unit-returns-in_err-allowed-in-Pick
read_unit-returns-in_err-allowed-in-Pick t c =
    let q = err_from_is_err_and c.from_residual-in_err-allowed-in-Pick.result c.from_residual-in_err-allowed-in-Pick.ensures.1 in
    let a = c.in_err-allowed-in-Pick.ensures in
    rw (q.1, q.2) (record {
      grown = search rules;
      measured = tt;
      value = λ text e. (
        e,
        deep_pick text c.args.depth c.args.cursor.now.at c.args.table.now c.args.table.now c.peek-ahead.result (c.peek-ahead.ensures.sees text e) _ a.1 c.in-Pick.is a.0,
      );
    })

pub read_unit-returns-in_err-allowed-in-Opening : goal.read_unit-returns-in_err-allowed-in-Opening
read_unit-returns-in_err-allowed-in-Opening t c =
    let q = err_from_is_err_and c.from_residual-in_err-allowed-in-Opening.result c.from_residual-in_err-allowed-in-Opening.ensures.1 in
    let a = c.in_err-allowed-in-Opening.ensures in
    rw (q.1, q.2) (record {
      grown = search rules;
      measured = tt;
      value = λ text e. (
        e,
        deep_bracket text c.args.depth c.args.cursor.now.at c.args.table.now c.args.table.now c.peek-ahead.result (c.peek-ahead.ensures.sees text e) _ a.1 c.in-Opening.is a.0,
      );
    })

pub read_unit-returns-in_err-inner-in-Not : goal.read_unit-returns-in_err-inner-in-Not
read_unit-returns-in_err-inner-in-Not t c =
    let d = c.in_ok-allowed-in-Not.ensures in
    let q = err_from_is_err_and c.from_residual-in_err-inner-in-Not.result c.from_residual-in_err-inner-in-Not.ensures.1 in
    rw (q.1, q.2) (record {
      grown = search rules;
      measured = tt;
      value = λ text e.
          let i = c.in_err-inner-in-Not.ensures.value text e in (
            i.0,
            not_stops text c.args.depth c.args.cursor.now.at c.args.table.now c.args.table.now c.peek-ahead.result (c.peek-ahead.ensures.sees text e) _ c.in-Not.is d.0 (unit_within_stops text c.args.depth _ _ c.args.table.now _ d.1 i.1),
          );
    })

pub read_unit-returns-in_err-name-in-Pick : goal.read_unit-returns-in_err-name-in-Pick
read_unit-returns-in_err-name-in-Pick t c =
    let d = c.in_ok-allowed-in-Pick.ensures in
    let q = err_from_is_err_and c.from_residual-in_err-name-in-Pick.result c.from_residual-in_err-name-in-Pick.ensures.1 in
    rw (q.1, q.2) (record {
      grown = search rules;
      measured = tt;
      value = λ text e.
          let n = c.in_err-name-in-Pick.ensures text e in (
            n.0,
            pick_name_stops text c.args.depth c.args.cursor.now.at c.args.table.now c.args.table.now c.peek-ahead.result (c.peek-ahead.ensures.sees text e) _ c.in-Pick.is d.0 n.1,
          );
    })

pub read_unit-returns-in_err-inner-in-Pick : goal.read_unit-returns-in_err-inner-in-Pick
read_unit-returns-in_err-inner-in-Pick t c =
    let d = c.in_ok-allowed-in-Pick.ensures in
    let q = err_from_is_err_and c.from_residual-in_err-inner-in-Pick.result c.from_residual-in_err-inner-in-Pick.ensures.1 in
    rw (q.1, q.2) (record {
      grown = search rules;
      measured = tt;
      value = λ text e.
          let n = c.in_ok-name-in-Pick.ensures text e in
          let i = c.in_err-inner-in-Pick.ensures.value text n.0 in (
            i.0,
            pick_stops text c.args.depth c.args.cursor.now.at c.args.table.now c.args.table.now c.peek-ahead.result (c.peek-ahead.ensures.sees text e) _ _ c.in-Pick.is d.0 n.1 (unit_within_stops text c.args.depth _ _ c.args.table.now _ d.1 i.1),
          );
    })

pub read_unit-returns-in_err-inner-in-Opening : goal.read_unit-returns-in_err-inner-in-Opening
read_unit-returns-in_err-inner-in-Opening t c =
    let d = c.in_ok-allowed-in-Opening.ensures in
    let q = err_from_is_err_and c.from_residual-in_err-inner-in-Opening.result c.from_residual-in_err-inner-in-Opening.ensures.1 in
    rw (q.1, q.2) (record {
      grown = search rules;
      measured = tt;
      value = λ text e.
          let i = c.in_err-inner-in-Opening.ensures.value text e in (
            i.0,
            bracket_stops text c.args.depth c.args.cursor.now.at c.args.table.now c.args.table.now c.peek-ahead.result (c.peek-ahead.ensures.sees text e) _ c.in-Opening.is d.0 (formula_within_stops text c.args.depth _ _ c.args.table.now _ d.1 i.1),
          );
    })

pub read_unit-returns-in_err-expect-in-Opening : goal.read_unit-returns-in_err-expect-in-Opening
read_unit-returns-in_err-expect-in-Opening t c =
    let d = c.in_ok-allowed-in-Opening.ensures in
    let q = err_from_is_err_and c.from_residual-in_err-expect-in-Opening.result c.from_residual-in_err-expect-in-Opening.ensures.1 in
    rw (q.1, q.2) (record {
      grown = search rules;
      measured = tt;
      value = λ text e.
          let i = c.in_ok-inner-in-Opening.ensures.value text e in
          let x = c.in_err-expect-in-Opening.ensures.asked text i.0 in (
            x.0,
            unclosed_stops text c.args.depth c.args.cursor.now.at c.args.table.now _ c.peek-ahead.result (c.peek-ahead.ensures.sees text e) _ _ c.in-Opening.is d.0 (formula_within text c.args.depth _ _ _ _ _ d.1 i.1)
                (x.1 _ fixed_closing),
          );
    })

pub read_unit-returns-in-Number : goal.read_unit-returns-in-Number
read_unit-returns-in-Number t c =
    record {
      grown = search rules;
      measured =
          let is = c.in-Number.is in
          let a = real c.args.cursor.now.text.now _ c.peek-ahead.result (c.peek-ahead.ensures.sees c.args.cursor.now.text.now refl) (λ e. no (cc)) in
          measured_from _ _ (read_to c.read_comparison.new.cursor.at c.read_comparison.result) (omega (arith, a.0))
          c.read_comparison.ensures.measured;
      value =
          let is = c.in-Number.is in
          λ text e.
          let o = c.read_comparison.ensures.value text e in (
            o.0,
            number_unit text c.args.depth c.args.cursor.now.at c.args.table.now _ c.peek-ahead.result (c.peek-ahead.ensures.sees text e) c.in-Number.value _ is o.1,
          );
    }

pub read_unit-returns-in-Name : goal.read_unit-returns-in-Name
read_unit-returns-in-Name t c =
    record {
      grown = search rules;
      measured =
          let is = c.in-Name.is in
          let a = real c.args.cursor.now.text.now _ c.peek-ahead.result (c.peek-ahead.ensures.sees c.args.cursor.now.text.now refl) (λ e. no (cc)) in
          measured_from _ _ (read_to c.read_named.new.cursor.at c.read_named.result) (omega (arith, a.0))
          c.read_named.ensures.measured;
      value =
          let is = c.in-Name.is in
          λ text e.
          let o = c.read_named.ensures.value text e in (
            o.0,
            name_unit text c.args.depth c.args.cursor.now.at c.args.table.now _ c.peek-ahead.result (c.peek-ahead.ensures.sees text e) c.in-Name.word _ is o.1,
          );
    }

pub read_unit-returns-in_ok-inner-in-Not : goal.read_unit-returns-in_ok-inner-in-Not
read_unit-returns-in_ok-inner-in-Not t c =
    record {
      grown = search rules;
      measured =
          let d = c.in_ok-allowed-in-Not.ensures in
          let is = c.in-Not.is in
          let a = real c.args.cursor.now.text.now _ c.peek-ahead.result (c.peek-ahead.ensures.sees c.args.cursor.now.text.now refl) (λ e. no (cc)) in
          let inner = c.in_ok-inner-in-Not.ensures in
          within_measured _ _ _ _ c.in_ok-inner-in-Not.inner _ c.within.ensures a.0 inner.measured;
      value =
          let d = c.in_ok-allowed-in-Not.ensures in
          let is = c.in-Not.is in
          let inner = c.in_ok-inner-in-Not.ensures in
          λ text e.
          let i = inner.value text e in (
            i.0,
            not_unit text c.args.depth c.args.cursor.now.at c.args.table.now _ c.peek-ahead.result (c.peek-ahead.ensures.sees text e) _ _ is d.0 (unit_within text c.args.depth _ _ _ _ _ d.1 i.1) c.push-body.ensures
                c.within.ensures,
          );
    }

pub read_unit-returns-in_ok-inner-in-Pick : goal.read_unit-returns-in_ok-inner-in-Pick
read_unit-returns-in_ok-inner-in-Pick t c =
    record {
      grown = search rules;
      measured =
          let d = c.in_ok-allowed-in-Pick.ensures in
          let is = c.in-Pick.is in
          let text = c.args.cursor.now.text.now in
          let a = real text _ c.peek-ahead.result (c.peek-ahead.ensures.sees text refl) (λ e. no (cc)) in
          let n = c.in_ok-name-in-Pick.ensures text refl in
          let inner = c.in_ok-inner-in-Pick.ensures in
          within_measured _ _ _ _ c.in_ok-inner-in-Pick.inner _ c.within-in-Pick.ensures (omega (arith, a.0, n.1.0)) inner.measured;
      value =
          let d = c.in_ok-allowed-in-Pick.ensures in
          let is = c.in-Pick.is in
          let inner = c.in_ok-inner-in-Pick.ensures in
          λ text e.
          let n = c.in_ok-name-in-Pick.ensures text e in
          let i = inner.value text n.0 in (
            i.0,
            pick_unit text c.args.depth c.args.cursor.now.at c.args.table.now _ c.peek-ahead.result (c.peek-ahead.ensures.sees text e) _ _ _ is d.0 n.1 (unit_within text c.args.depth _ _ _ _ _ d.1 i.1)
                c.push-body-in-Pick.ensures c.within-in-Pick.ensures,
          );
    }

pub read_unit-returns-in_ok-expect-in-Opening : goal.read_unit-returns-in_ok-expect-in-Opening
read_unit-returns-in_ok-expect-in-Opening t c =
    record {
      grown = search rules;
      measured =
          let d = c.in_ok-allowed-in-Opening.ensures in
          let is = c.in-Opening.is in
          let text = c.args.cursor.now.text.now in
          let a = real text _ c.peek-ahead.result (c.peek-ahead.ensures.sees text refl) (λ e. no (cc)) in
          let inner = c.in_ok-inner-in-Opening.ensures in
          let i = inner.value text refl in
          let x = c.in_ok-expect-in-Opening.ensures.asked text i.0 in
          let y = x.1 _ fixed_closing in
          let m = inner.measured in
          (m.0, omega (arith, m.1, a.0, y.0), m.2);
      value =
          let d = c.in_ok-allowed-in-Opening.ensures in
          let is = c.in-Opening.is in
          let inner = c.in_ok-inner-in-Opening.ensures in
          λ text e.
          let i = inner.value text e in
          let x = c.in_ok-expect-in-Opening.ensures.asked text i.0 in (
            x.0,
            bracket_unit text c.args.depth c.args.cursor.now.at c.args.table.now _ c.peek-ahead.result (c.peek-ahead.ensures.sees text e) _ _ is d.0 (formula_within text c.args.depth _ _ _ _ _ d.1 i.1) (x.1 _ fixed_closing),
          );
    }

pub read_unit-returns-in_default : goal.read_unit-returns-in_default
read_unit-returns-in_default t c =
    record {
      grown = grown_none c.args.table.now;
      measured = tt;
      value = λ text e. (
        e,
        unit_stops text c.args.depth c.args.cursor.now.at c.args.table.now c.args.table.now c.peek-ahead.result (c.peek-ahead.ensures.sees text e) _ c.not_permitted.ensures
            c.in_default.not-Number c.in_default.not-Name c.in_default.not-Not c.in_default.not-Pick
            c.in_default.not-Opening,
      );
    }

pub read_formula-read_formula-requires : goal.read_formula-read_formula-requires
read_formula-read_formula-requires t c =
    let text = c.args.cursor.now.text.now in
    let l = c.in_ok-left.ensures.value text refl in
    let is = c.in-Join.is in
    let a = real text _ c.peek-ahead.result (c.peek-ahead.ensures.sees text l.0) (λ e. no (cc)) in
    let w = c.in_ok-weights.ensures text l.0 in
    let long = ap (λ bytes. length bytes) w.0 in
    (omega (arith, c.decreases, l.1.0, a.0, a.1, w.1.0, w.1.1, long), tt)

pub read_unit-read_unit-requires : goal.read_unit-read_unit-requires
read_unit-read_unit-requires t c =
    let is = c.in-Not.is in
    let a = real c.args.cursor.now.text.now _ c.peek-ahead.result (c.peek-ahead.ensures.sees c.args.cursor.now.text.now refl) (λ e. no (cc)) in
    (omega (arith, c.decreases, a.0, a.1), tt)

pub read_unit-read_unit-requires-in-Pick : goal.read_unit-read_unit-requires-in-Pick
read_unit-read_unit-requires-in-Pick t c =
    let is = c.in-Pick.is in
    let text = c.args.cursor.now.text.now in
    let a = real text _ c.peek-ahead.result (c.peek-ahead.ensures.sees text refl) (λ e. no (cc)) in
    let n = c.in_ok-name-in-Pick.ensures text refl in
    let long = ap (λ bytes. length bytes) n.0 in
    (omega (arith, c.decreases, a.0, n.1.0, n.1.1, long), tt)

pub read_unit-read_formula-requires : goal.read_unit-read_formula-requires
read_unit-read_formula-requires t c =
    let is = c.in-Opening.is in
    let a = real c.args.cursor.now.text.now _ c.peek-ahead.result (c.peek-ahead.ensures.sees c.args.cursor.now.text.now refl) (λ e. no (cc)) in
    (omega (arith, c.decreases, a.0, a.1), tt)
