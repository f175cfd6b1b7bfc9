use Rattle.std.proofs.Common.{length, refl, ap, ◌∙◌, arith}
use Rattle.std.proofs.lemmas.Slice.{between_to_end}
use Rattle.client.specs.Sessions.{noted}
use Rattle.run.proofs.Tables.{fields_are}
use Rattle.client.proofs.Taking.{takes_noted, room_left, noted_room}
use Rattle.client.proofs.act.issue.Goals as goal

pub returns-clause-room : goal.returns-clause-room
returns-clause-room g c =
    let sh = c.args.sheet.now in
    let list = c.args.lists.now.mark.now in
    noted_room (length sh.ranges.items) c.next_over-answer.result c.args.taken.now c.note.new.self list
    c.next_over-answer.new.mark (c.note.ensures ∙ ap (λ k. noted k c.next_over-answer.result c.args.taken.now) c.field_count.ensures) c.next_over-answer.auto.mark c.requires.room
    (room_left _ _ _ _ _ _ _ _ list _ c.next_over-answer.ensures.step (fields_are sh) refl c.requires.room)

pub returns-clause-takes : goal.returns-clause-takes
returns-clause-takes g c =
    let list = c.args.lists.now.mark.now in
    λ asked ns. takes_noted _ _ _ _ _ _ _ c.next_over-answer.result c.args.taken.now _ list c.next_over-answer.new.mark
    ns refl refl refl (fields_are c.args.sheet.now) c.requires.room
    (between_to_end list c.args.taken.now.entries (length list) (omega arith)) c.next_over-answer.auto.mark
    c.next_over-answer.ensures.step (c.note.ensures ∙ ap (λ k. noted k c.next_over-answer.result c.args.taken.now) c.field_count.ensures)

pub note-requires : goal.note-requires
note-requires g c = λ is.
    omega (
      arith,
      room_left _ _ _ _ _ _ _ _ c.args.lists.now.mark.now _ c.next_over-answer.ensures.step
          (fields_are c.args.sheet.now) refl c.requires.room is,
    )
