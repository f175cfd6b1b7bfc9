-- The lists that a caller lends, as they stand behind their references.
use Rattle.std.specs.Prelude.{◌≡◌, length}
use Rattle.run.specs.declared.lists.Lists.{Lists as Borrowed}
use Rattle.run.specs.Answering.{Lists, lists}

-- what they hold
abbrev pub held : Borrowed → Lists
held l = lists l.picks.now l.widths.now l.mark.now (length l.goals.now) (length l.frames.now)

-- they are the caller's own lists still, and as long as before
pub record SameLists (before after : Borrowed) : Type 0 where
  pub picks : after.picks.ghost_name ≡ before.picks.ghost_name
  pub widths : after.widths.ghost_name ≡ before.widths.ghost_name
  pub goals : after.goals.ghost_name ≡ before.goals.ghost_name
  pub frames : after.frames.ghost_name ≡ before.frames.ghost_name
  pub mark : after.mark.ghost_name ≡ before.mark.ghost_name
  pub picks_long : length after.picks.now ≡ length before.picks.now
  pub widths_long : length after.widths.now ≡ length before.widths.now
  pub goals_long : length after.goals.now ≡ length before.goals.now
  pub frames_long : length after.frames.now ≡ length before.frames.now
  pub mark_long : length after.mark.now ≡ length before.mark.now
