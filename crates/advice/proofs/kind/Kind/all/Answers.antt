use Rattle.std.proofs.Common.{refl}
use Rattle.advice.specs.declared.kind.Kind.TheVariants as kind
use Rattle.advice.specs.Permitted.{EveryKind, kinds}
use Rattle.advice.proofs.kind.Kind.all.Goals as goal

every_kind : EveryKind kinds
every_kind kind.Name = (0, refl)
every_kind kind.Number = (1, refl)
every_kind kind.Field = (2, refl)
every_kind kind.Rule = (3, refl)
every_kind kind.Mark = (4, refl)
every_kind kind.And = (5, refl)
every_kind kind.Or = (6, refl)
every_kind kind.Not = (7, refl)
every_kind kind.Pick = (8, refl)
every_kind kind.Open = (9, refl)
every_kind kind.Close = (10, refl)
every_kind kind.Comma = (11, refl)
every_kind kind.Semicolon = (12, refl)
every_kind kind.Colon = (13, refl)
every_kind kind.Plus = (14, refl)
every_kind kind.Minus = (15, refl)
every_kind kind.Compare = (16, refl)

pub returns-clause-every : goal.returns-clause-every
returns-clause-every c = every_kind
