use Rattle.std.proofs.Common.{lit≤, map, ap}
use Rattle.grammar.specs.Tables.{no_rules, field_of}
use Rattle.grammar.proofs.table.Table.blank.Goals as goal

pub returns-clause-lines : goal.returns-clause-lines
returns-clause-lines c = λ text.
    let none = c.default.ensures in
    record {
      few_fields = lit≤ tt;
      fields_held = ap (map (field_of text)) none.0;
      few_rules = lit≤ tt;
      rules_held = rw none.1.0 no_rules;
    }
