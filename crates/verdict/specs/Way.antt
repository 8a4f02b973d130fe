-- The way, not the meaning: parts of a verdict as they are computed from lent bytes.
use Rattle.std.specs.Prelude.{ℕ, ◌-◌, Bool, List, eqb, get_or}
use Rattle.wire.specs.Bytes.{bytes}
use Rattle.rules.specs.declared.kinds.Kinds.{Kinds}
use Rattle.rules.specs.Ladders.{rung, sanction}
use Rattle.places.specs.Places.{group_at, kind_at}
use Rattle.book.specs.Layout.{total_at}
use Rattle.posting.specs.Raise.{next_total, hit_at}

-- the bytes of a ladder's total after the day
unfoldable pub total_bytes : Bool → (places book : List ℕ) → ℕ → ℕ → List ℕ
total_bytes later places book contracts ladder =
    bytes 2 (next_total later (hit_at places contracts ladder) (total_at book ladder))

-- the sanction for a ladder's new total, the members a byte a group
unfoldable pub sanction_for : Kinds → ℕ → List ℕ → (ladder total : ℕ) → ℕ
sanction_for kinds rulebook members ladder total =
    sanction rulebook (kind_at kinds ladder) (rung total) (eqb (get_or members (group_at kinds ladder - 1) 0) 1)
