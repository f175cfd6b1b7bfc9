use Rattle.std.proofs.Common.{◌+◌, arith}
use Rattle.names.proofs.Runs.{goes_settled, goes_refused, goes_all, sooner_min}
use Rattle.names.proofs.scope.Scope.number_entries.Goals as goal
use Rattle.names.proofs.scope.Scope.number_entries.Goals.{in-Ok, in-Err}

pub loop-i-preserved : goal.loop-i-preserved
loop-i-preserved c =
    let s = c.args.self in
    let l = c.loop-i in
    let m = c.match-number_entry in
    let end = c.args.line.body + 1 in
    elim m.branch [
      | in-Ok w ↦
          goes_settled s c.args.entries.now c.args.line.start end l.i c.args.nodes.now l.nodes
          l.first l.invariant (omega arith) (omega arith) w.in-Ok.node m.nodes m.first w.nodes-is w.first-is
          (rw c.entry_at.ensures at w.in-Ok.ensures)
      | in-Err w ↦
          goes_refused s c.args.entries.now c.args.line.start end l.i c.args.nodes.now l.nodes
          l.first l.invariant (omega arith) w.in-Err.fault w.min.result m.nodes m.first w.nodes-is w.first-is
          (rw c.entry_at.ensures at w.in-Err.ensures)
          (sooner_min l.first w.in-Err.fault w.min.result (rw (w.unwrap_or.ensures, w.err.ensures.value) at w.min.ensures))
    ]

pub returns-after-number_entry-clause-settled : goal.returns-after-number_entry-clause-settled
returns-after-number_entry-clause-settled c =
    let s = c.args.self in
    let l = c.loop-i in
    let m = c.match-number_entry in
    let end = c.args.line.body + 1 in
    goes_all s c.args.entries.now c.args.line.start end (l.i + 1) c.args.nodes.now m.nodes m.first
    (elim m.branch [
      | in-Ok w ↦
          goes_settled s c.args.entries.now c.args.line.start end l.i c.args.nodes.now l.nodes
          l.first l.invariant (omega arith) (omega arith) w.in-Ok.node m.nodes m.first w.nodes-is w.first-is
          (rw c.entry_at.ensures at w.in-Ok.ensures)
      | in-Err w ↦
          goes_refused s c.args.entries.now c.args.line.start end l.i c.args.nodes.now l.nodes
          l.first l.invariant (omega arith) w.in-Err.fault w.min.result m.nodes m.first w.nodes-is w.first-is
          (rw c.entry_at.ensures at w.in-Err.ensures)
          (sooner_min l.first w.in-Err.fault w.min.result (rw (w.unwrap_or.ensures, w.err.ensures.value) at w.min.ensures))
    ])
    (omega arith)

pub returns-clause-settled : goal.returns-clause-settled
returns-clause-settled c =
    let s = c.args.self in
    let l = c.loop-i in
    goes_all s c.args.entries.now c.args.line.start (c.args.line.body + 1) l.i c.args.nodes.now
    l.nodes l.first l.invariant (omega arith)
