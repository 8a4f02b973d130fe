-- A line that is made in a room, to which something is added.
use Rattle.std.specs.Prelude.{◌≡◌, ℕ, List, ◌++◌, take}

-- The length of its room, and the bytes that are made.
pub record Made : Type 0 where
  pub room : ℕ
  pub bytes : List ℕ

-- What stood there stays and a text follows it, as far as the room goes.
abbrev pub add : Made → List ℕ → Made
add line text = record line { bytes = take line.room (line.bytes ++ text) }

-- Some words are added.
abbrev pub Adds : Made → Made → Type 0
Adds old new = (words : List ℕ) × (new ≡ add old words)
