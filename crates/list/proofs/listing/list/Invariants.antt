use Rattle.std.proofs.Common.{◌≡◌}
use Rattle.sheet.specs.Sheets.{tree_of}
use Rattle.run.specs.Lists.{SameLists}
use Rattle.walk.specs.Lending.{watch_over}
use Rattle.list.proofs.Ending.{SoFar}
use Rattle.list.proofs.listing.list.Given as goal

-- the nexts so far, and the lines that they wrote
abbrev pub invariant-loop : goal.invariant-loop
invariant-loop g l = record {
  wide : g.S.Store.width l.store ≡ g.S.Store.width l.initial.store;
  starting : g.S.Store.starting l.store ≡ g.S.Store.starting l.initial.store;
  own : SameLists l.initial.lists l.lists;
  so_far :
      SoFar (tree_of l.sheet) (g.S.Store.width l.initial.store)
      (watch_over l.initial.walk (g.S.Store.starting l.initial.store) l.initial.lists)
      (watch_over l.walk (g.S.Store.starting l.store) l.lists)
      (g.W.Write.contents l.initial.out) (g.W.Write.contents l.out);
}
