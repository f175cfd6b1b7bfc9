use Rattle.std.proofs.Common.{arith}
use Rattle.run.proofs.Works.{first_stack, first_fit}
use Rattle.run.proofs.stack.Stack.begin.Goals as goal

pub returns-clause-fit : goal.returns-clause-fit
returns-clause-fit c =
    let t = c.args.self.now in
    first_fit c.args.sheet.now t.goals.now t.frames.now t.depth.fuel t.goals_hold t.frames_hold
    (omega arith)

pub returns-clause-waits : goal.returns-clause-waits
returns-clause-waits c =
    let t = c.args.self.now in
    first_stack c.args.sheet.now t.goals.now t.frames.now t.depth.fuel t.goals_hold t.frames_hold
    (omega arith)
