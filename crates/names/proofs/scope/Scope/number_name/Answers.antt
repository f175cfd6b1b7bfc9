use Rattle.std.proofs.Common.{rules}
use Rattle.names.proofs.Numbering.{name_settled}
use Rattle.names.proofs.scope.Scope.number_name.Goals as goal

pub returns : goal.returns
returns c =
    let s = c.args.self in
    name_settled s c.args.name c.find.result c.find-2.result c.map-field.result c.map-param.result
    c.ok_or.result c.find.ensures.found c.find-2.ensures.found (search rules) (search rules)
    (rw (c.or.ensures, c.at.ensures) at c.ok_or.ensures.value)
