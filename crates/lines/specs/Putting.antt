-- Only private contracts and proofs cite this file.
-- Bytes put into a buffer from a place on, one after another, once it is known that they have room.
use Rattle.std.specs.Prelude.{◌≡◌, ℕ, ◌+◌, ◌≤◌, List, ◌++◌, length, take, drop}
use Rattle.lines.specs.declared.cursor.Cursor.{Cursor}

-- the bytes stand from place `at` up to place `to`; what lies before and past them is as it was
pub record Put (before : List ℕ) (at : ℕ) (bytes after : List ℕ) (to : ℕ) : Type 0 where
  pub size : to ≡ at + length bytes
  pub front : take to after ≡ take at before ++ bytes
  pub past : drop to after ≡ drop to before

-- so many bytes more fit the buffer from where the cursor stands
abbrev pub HasRoom : Cursor → ℕ → Type 0
HasRoom cursor n = cursor.at + n ≤ length cursor.out.now

-- the bytes are put where the cursor stood, and it stands behind them in the same buffer
pub record Written (before : Cursor) (bytes : List ℕ) (after : Cursor) : Type 0 where
  pub put : Put before.out.now before.at bytes after.out.now after.at
  pub same_buffer : after.out.ghost_name ≡ before.out.ghost_name
