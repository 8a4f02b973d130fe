-- 01, "Ladders" and "The calls and their refusals": a day's findings as bytes and the book after the day, from each
-- ladder's lowest place.
use Rattle.std.specs.Prelude.{ℕ, ◌-◌, ◌*◌, ◌/◌, Bool, ltb, eqb, length, get_or}
use mathlib.Core.List.{List, [], ◌∷◌, ◌++◌}
use Rattle.wire.specs.Choice.{pick}
use Rattle.wire.specs.Below.{count}
use Rattle.wire.specs.Bytes.{le, bytes}
use Rattle.wire.specs.Buffers.{rows}
use Rattle.rules.specs.declared.kinds.Kinds.{Kinds}
use Rattle.rules.specs.Ladders.{rung, sanction}
use Rattle.book.specs.declared.shape.Shape.{Shape}
use Rattle.places.specs.Places.{ladders, group_at, kind_at, family_at}
use Rattle.book.specs.Layout.{total_at, book_as}
use Rattle.posting.specs.Raise.{later_year, next_total, place_in, hit_at}
use Rattle.verdict.specs.declared.ruling.Ruling.{Ruling}

-- what a day's end goes by
pub record Verdict : Type 0 where
  -- the shape of the book, and the day's rulebook
  pub shape : Shape
  pub rulebook : ℕ
  -- how many contracts there are, and the id of the one at a place
  pub contracts : ℕ
  pub id : ℕ → ℕ
  -- "a group with a member among that day's accounts"
  pub member : ℕ → Bool
  -- for each ladder, the lowest place of a contract that reached the number; where none did, no contract's place
  pub lowest : ℕ → ℕ

-- "one offence of a kind in a family on a day if any contract of the family reaches the number"
unfoldable pub offends : Verdict → ℕ → Bool
offends v ladder = ltb (v.lowest ladder) v.contracts

-- how many findings there are
unfoldable pub found_count : Verdict → ℕ
found_count v = count (offends v) (ladders v.shape.kinds)

-- "group, kind, family, sanction, one byte each; the total, 16 bits; the lowest contract id that reached the number,
-- 16 bits"
unfoldable pub finding : Kinds → (ladder sanction' total id : ℕ) → List ℕ
finding kinds ladder sanction' total id =
    group_at kinds ladder ∷ kind_at kinds ladder ∷ family_at ladder ∷ sanction' ∷ (bytes 2 total ++ bytes 2 id)

-- ---- a day of a date, on a book
module _ (v : Verdict) (date : ℕ) (book : List ℕ) where
  -- a ladder's total after the day
  unfoldable pub total_after : ℕ → ℕ
  total_after ladder = next_total (later_year book date) (offends v ladder) (total_at book ladder)

  -- the sanction of its finding
  unfoldable pub sanction_at : ℕ → ℕ
  unfolding total_after
  sanction_at ladder =
      sanction v.rulebook (kind_at v.shape.kinds ladder) (rung (total_after ladder))
      (v.member (group_at v.shape.kinds ladder))

  -- what a ladder adds to the findings
  unfoldable pub found_at : ℕ → List ℕ
  unfolding total_after sanction_at
  found_at ladder =
      pick (offends v ladder)
      (finding v.shape.kinds ladder (sanction_at ladder) (total_after ladder) (v.id (v.lowest ladder))) []

  -- the findings, in the order group, kind, family
  unfoldable pub findings : List ℕ
  unfolding found_at
  findings = rows found_at (ladders v.shape.kinds)

  -- "Ending writes the book (totals, last date)"
  unfoldable pub book_after : List ℕ
  unfolding total_after
  book_after = book_as v.shape v.rulebook date total_after

-- ---- a verdict in lent bytes: a byte a ladder, 16 bits an id, a byte a group
unfoldable pub verdict_in : Shape → ℕ → (places ids members : List ℕ) → Verdict
verdict_in shape rulebook places ids members = record {
  shape = shape;
  rulebook = rulebook;
  contracts = length ids / 2;
  id = λ place. le 2 ids (2 * place);
  member = λ group. eqb (get_or members (group - 1) 0) 1;
  lowest = place_in places;
}

-- that of a ruling
abbrev pub verdict_of : Ruling → Verdict
verdict_of r = verdict_in r.shape r.rulebook r.places.now r.ids.now r.members.now

-- its number of findings takes the places alone
unfoldable pub found_in : Kinds → List ℕ → ℕ → ℕ
found_in kinds places contracts = count (hit_at places contracts) (ladders kinds)
