-- What putting a piece promises of a text: the room is the same, and the piece stands behind what was used.
use Rattle.std.specs.Prelude.{◌≡◌, List, ℕ, length, min}
use Rattle.text.specs.Text.{put}
use Rattle.text.specs.declared.Text.{Text}

pub record Puts (before : Text) (piece : List ℕ) (after : Text) : Type 0 where
  pub same_room : after.room.ghost_name ≡ before.room.ghost_name
  pub puts : (after.used, after.room.now) ≡ put before.room.now before.used piece

-- nothing is used of the lent room, given by its bytes and its name
pub record Begins (out : List ℕ) (name : ℕ) (after : Text) : Type 0 where
  pub same_room : after.room.ghost_name ≡ name
  pub same_bytes : after.room.now ≡ out
  pub none_used : after.used ≡ 0

-- so much is used of the lent room, or all of it
pub record Goes (out : List ℕ) (name : ℕ) (used : ℕ) (after : Text) : Type 0 where
  pub same_room : after.room.ghost_name ≡ name
  pub same_bytes : after.room.now ≡ out
  pub used_or_all : after.used ≡ min used (length out)
