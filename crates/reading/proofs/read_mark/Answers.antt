use Rattle.std.proofs.Common.{◌∙◌}
use Rattle.reading.proofs.Entries.{at_entry}
use Rattle.reading.proofs.Marks.{fields_counted, checks_out, checks_in}
use Rattle.reading.proofs.read_mark.Goals as goal

pub in_ranges-requires : goal.in_ranges-requires
in_ranges-requires c = c.requires.0 ∙ fields_counted c.args.sheet.now

pub returns-then-not-in_ranges : goal.returns-then-not-in_ranges
returns-then-not-in_ranges c =
    checks_out c.args.sheet.now c.args.mark.now c.args.fuel c.if-not-in_ranges.ensures

pub read-result-requires-clause-fields : goal.read-result-requires-clause-fields
read-result-requires-clause-fields c = c.requires.0 ∙ fields_counted c.args.sheet.now

pub returns : goal.returns
returns c =
    checks_in c.args.sheet.now c.args.mark.now c.args.fuel c.if-not-in_ranges.ensures
    c.read-result.result c.read-result.new.fuel (at_entry c.from-body.ensures c.read-result.ensures.read)
    _ (c.from.ensures c.read-result.new.fuel)
