-- Proof that the register store's sets are sets of marks; it stands here since a ghost member cites it.
use Rattle.std.proofs.lemmas.Bool.{and_parts}
use Rattle.marks.specs.Sets.{MarksOf}
use Rattle.store.specs.Rules.{Sound}
use Rattle.store.specs.Opens.{every_mark, open_left}
use Rattle.store.specs.Sounds.{every_has, marks_in_of}
use Rattle.register.specs.declared.RegisterStore.{RegisterStore}
use Rattle.register.specs.Registers.{is_row, both, numbers_of, width_of, register_start, register_left}

pub start_of : (s : RegisterStore) → MarksOf (width_of s) (register_start s)
unfolding both
start_of s m e =
    (every_has (width_of s) m).0
    (and_parts (is_row (numbers_of s) (width_of s) m) (every_mark (width_of s) m) e).1

pub left_of : (s : RegisterStore) → MarksOf (width_of s) (register_left s)
unfolding both
left_of s m e =
    marks_in_of (width_of s) s.allowed.rows m
    (and_parts (is_row (numbers_of s) (width_of s) m) (open_left s.allowed m) e).1

pub register_sound : Sound width_of register_start register_left
register_sound = record { started = start_of; left = left_of }
