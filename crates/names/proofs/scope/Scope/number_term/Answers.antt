use Rattle.std.proofs.Common.{refl, rules}
use Rattle.formula.specs.declared.term.Term.TheVariants.{Bare}
use Rattle.names.specs.Names.{constant_is, bare_is}
use Rattle.names.proofs.Numbering.{term_mapped, moved_mapped, no_uses}
use Rattle.names.proofs.scope.Scope.number_term.Goals as goal

pub returns-in-Number : goal.returns-in-Number
returns-in-Number c =
    rw c.in-Number.is (λ rs. (no_uses, constant_is))

pub returns-in-Bare : goal.returns-in-Bare
returns-in-Bare c =
    term_mapped c.args.self c.in-Bare.word c.args.term (Bare c.in-Bare.word)
    Bare c.in-Bare.is refl (λ b m. bare_is m) c.number_name.result c.map.result (search rules) c.number_name.ensures

pub returns-in-Moved : goal.returns-in-Moved
returns-in-Moved c =
    moved_mapped c.args.self c.in-Moved.word c.args.term
    c.in-Moved.shift c.in-Moved.is c.number_name-in-Moved.result c.map-in-Moved.result (search rules)
    c.number_name-in-Moved.ensures
