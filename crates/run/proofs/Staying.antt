-- Lists that stay the caller's own over two calls.
use Rattle.std.proofs.Common.{refl, ◌∙◌}
use Rattle.run.specs.declared.lists.Lists.{Lists as Borrowed}
use Rattle.run.specs.Lists.{SameLists}

pub same_none : {a : Borrowed} → SameLists a a
same_none = record {
  picks = refl;
  widths = refl;
  goals = refl;
  frames = refl;
  mark = refl;
  picks_long = refl;
  widths_long = refl;
  goals_long = refl;
  frames_long = refl;
  mark_long = refl;
}

pub same_on : {a b c : Borrowed} → SameLists a b → SameLists b c → SameLists a c
same_on h k = record {
  picks = k.picks ∙ h.picks;
  widths = k.widths ∙ h.widths;
  goals = k.goals ∙ h.goals;
  frames = k.frames ∙ h.frames;
  mark = k.mark ∙ h.mark;
  picks_long = k.picks_long ∙ h.picks_long;
  widths_long = k.widths_long ∙ h.widths_long;
  goals_long = k.goals_long ∙ h.goals_long;
  frames_long = k.frames_long ∙ h.frames_long;
  mark_long = k.mark_long ∙ h.mark_long;
}
