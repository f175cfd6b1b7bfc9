use Rattle.std.proofs.Common.{refl}
use Rattle.register.proofs.Registers.{left_keeps}
use Rattle.register.proofs.RegisterStoreStore.keep.Goals as goal

pub returns-clause-left : goal.returns-clause-left
returns-clause-left c =
    let s = c.args.self.now in
    let e = c.keep.ensures in
    left_keeps s (record { register = s.register; allowed = c.keep.new.self }) c.args.field c.args.sign
    c.args.number c.keep.result refl e.same.0 e.left
