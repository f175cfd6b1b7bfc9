use Rattle.std.proofs.Common.{◌≡◌, ◌<◌, length, get_or, sym, subst, arith}
use Rattle.run.specs.declared.goal.Argument.TheVariants.{Field}
use Rattle.run.specs.Frames.{Stands, KnownIn}
use Rattle.run.proofs.Frames.{argument_at}
use Rattle.run.proofs.goal.Frame.argument.Goals as goal

pub bounds-self-from : goal.bounds-self-from
bounds-self-from c =
    let k = subst (KnownIn c.args.self.count) c.in-Param.is c.requires.known in
    let four : length c.args.self.arguments ≡ 4 = omega arith in
    omega (arith, c.requires.few, k, c.from.ensures)

pub returns-in-Param : goal.returns-in-Param
returns-in-Param c =
    let xs = c.args.self.arguments in
    let p = c.in-Param.place in
    let k = subst (KnownIn c.args.self.count) c.in-Param.is c.requires.known in
    let l : p < length xs = omega (arith, c.requires.few, k) in
    subst (λ q. Stands c.args.self c.args.name (get_or xs q (Field 0))) (sym c.from.ensures)
    (subst (λ q. Stands c.args.self q (get_or xs p (Field 0))) (sym c.in-Param.is)
    (record {
      is = argument_at xs c.args.self.count p k l;
      okay = λ w f n. f.each p
          (omega (arith, c.requires.few, k));
    }))
