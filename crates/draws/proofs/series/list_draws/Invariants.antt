use Rattle.std.proofs.Common.{◌≡◌}
use Rattle.sheet.specs.Sheets.{tree_of}
use Rattle.run.specs.Lists.{SameLists}
use Rattle.draws.proofs.Drawing.{SoFar}
use Rattle.draws.proofs.series.list_draws.Given as goal

-- the draws so far, and the lines that they wrote
abbrev pub invariant-loop : goal.invariant-loop
invariant-loop g l = record {
  wide : g.S.Store.width l.store ≡ g.S.Store.width l.initial.store;
  starting : g.S.Store.starting l.store ≡ g.S.Store.starting l.initial.store;
  own : SameLists l.initial.lists l.lists;
  so_far :
      SoFar (tree_of l.sheet) l.fuel (g.S.Store.starting l.initial.store)
      (g.R.Source.waiting l.initial.source) (g.R.Source.waiting l.source)
      (g.W.Write.contents l.initial.out) (g.W.Write.contents l.out);
}
