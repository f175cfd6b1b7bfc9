use Rattle.std.proofs.Common.{◌≡◌, ◌≤◌, length, take}
use Rattle.sheet.specs.Sheets.{tree_of}
use Rattle.run.specs.Lists.{SameLists}
use Rattle.walk.specs.Lending.{watch_over}
use Rattle.walk.specs.Law.{running}
use Rattle.client.specs.Sessions.{served, Takes}
use Rattle.client.proofs.Conducting.{nothing}
use Rattle.client.proofs.conduct.conduct.Given as goal

-- the calls so far took the session from its start to where it stands
abbrev pub invariant-loop-call : goal.invariant-loop-call
invariant-loop-call g l = record {
  room : l.taken.entries ≤ length l.lists.mark.now;
  wide : g.S.Store.width l.store ≡ g.S.Store.width l.initial.store;
  starting : g.S.Store.starting l.store ≡ g.S.Store.starting l.initial.store;
  own : SameLists l.initial.lists l.lists;
  takes :
      Takes (tree_of l.sheet) (g.S.Store.width l.initial.store) (served l.asked l.initial.lists)
      (running (watch_over l.initial.walk (g.S.Store.starting l.initial.store) l.initial.lists))
      nothing l.initial.lists.mark.now (g.R.Source.waiting l.initial.source) (take l.call-index l.calls)
      (running (watch_over l.walk (g.S.Store.starting l.store) l.lists)) l.taken l.lists.mark.now
      (g.R.Source.waiting l.source) l.lists.picks.now l.lists.widths.now;
}
