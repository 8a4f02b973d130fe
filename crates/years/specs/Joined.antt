-- Demand 3 over days that were written to books: "no offence and no opening restriction is lost" where two groups are
-- joined. For a book of any shape.
use Rattle.std.specs.Prelude.{◌≡◌, ◌⊎◌, true, false, List, [], ◌∷◌, ℕ, ◌≤◌, ◌<◌}
use Rattle.places.specs.Places.{ladders, ladder_of, group_at, HasLadder}
use Rattle.book.specs.declared.shape.Shape.{Shape}
use Rattle.book.specs.Layout.{total_at}
use Rattle.verdict.specs.Verdict.{Verdict, offends}
use Rattle.years.specs.Days.{WrittenDay, found_on}
use Rattle.years.specs.Restrictions.{restrictions}

-- "a and b differ, both 1 to 128"
pub record Two (a b : ℕ) : Type 0 where
  pub first_a : 1 ≤ a
  pub last_a : a ≤ 128
  pub first_b : 1 ≤ b
  pub last_b : b ≤ 128
  pub differ : a ≡ b → ⊥

-- a group that is neither
pub record Other (a b group : ℕ) : Type 0 where
  pub not_a : group ≡ a → ⊥
  pub not_b : group ≡ b → ⊥

-- ---- of a day: its verdict, and that of the same day with group a joined to group b
pub record VerdictJoined (a b : ℕ) (v v' : Verdict) : Type 0 where
  pub shape : v'.shape ≡ v.shape
  pub rulebook : v'.rulebook ≡ v.rulebook
  pub contracts : v'.contracts ≡ v.contracts
  -- "Every day that was an offence of a or of b, of a kind in a family,
  -- is one of the joined group on the same ladder."
  pub stays : (kind family : ℕ) → HasLadder v.shape.kinds b kind family
      → (offends v (ladder_of v.shape.kinds a kind family) ≡ true)
      ⊎ (offends v (ladder_of v.shape.kinds b kind family) ≡ true)
      → offends v' (ladder_of v.shape.kinds b kind family) ≡ true
  -- of every other group: the lowest place, its contract's id, and whether it has a member
  pub lowest : (l : ℕ) → l < ladders v.shape.kinds → Other a b (group_at v.shape.kinds l)
      → v'.lowest l ≡ v.lowest l
  pub id : (l : ℕ) → l < ladders v.shape.kinds → Other a b (group_at v.shape.kinds l)
      → v'.id (v'.lowest l) ≡ v.id (v.lowest l)
  pub member : (l : ℕ) → l < ladders v.shape.kinds → Other a b (group_at v.shape.kinds l)
      → v'.member (group_at v.shape.kinds l) ≡ v.member (group_at v.shape.kinds l)
  -- group a has no offence any more
  pub none_left : (l : ℕ) → l < ladders v.shape.kinds → group_at v.shape.kinds l ≡ a → offends v' l ≡ false

pub record SameDay (a b : ℕ) (d d' : WrittenDay) : Type 0 where
  pub date : d'.date ≡ d.date
  pub verdict : VerdictJoined a b d.verdict d'.verdict

pub data SameDays (a b : ℕ) : List WrittenDay → List WrittenDay → Type 0 where
  none : SameDays a b [] []
  more : {d d' : WrittenDay} {days days' : List WrittenDay} → SameDay a b d d' → SameDays a b days days'
      → SameDays a b (d ∷ days) (d' ∷ days')

-- ---- and of what it finds: `before` and `before'` are the days before it, on the book `from` of a shape
pub record DayJoined (a b : ℕ) (shape : Shape) (from : List ℕ) (d d' : WrittenDay) (before before' : List WrittenDay)
    : Type 0 where
  pub shaped : d.verdict.shape ≡ shape
  pub same : SameDay a b d d'
  -- other groups' findings are as they were, byte for byte, and group a has none any more
  pub others : (l : ℕ) → l < ladders shape.kinds → Other a b (group_at shape.kinds l)
      → found_on shape from d' before' l ≡ found_on shape from d before l
  pub gone : (l : ℕ) → l < ladders shape.kinds → group_at shape.kinds l ≡ a → found_on shape from d' before' l ≡ []

pub data DaysJoined (a b : ℕ) (shape : Shape) (from : List ℕ) : List WrittenDay → List WrittenDay → Type 0 where
  none : DaysJoined a b shape from [] []
  more : {d d' : WrittenDay} {days days' : List WrittenDay} → DayJoined a b shape from d d' days days'
      → DaysJoined a b shape from days days' → DaysJoined a b shape from (d ∷ days) (d' ∷ days')

-- ---- of the days and the books that they leave: totals at the end, and opening restrictions in each year
-- group g had no more on a kind's ladder in a family than group b has after the join
pub record NoFewer (shape : Shape) (g b : ℕ) (from book book' : List ℕ) (days days' : List WrittenDay)
    (kind family : ℕ) : Type 0 where
  pub totals : total_at book (ladder_of shape.kinds g kind family)
      ≤ total_at book' (ladder_of shape.kinds b kind family)
  pub restricted : (y : ℕ)
      → restrictions from y (ladder_of shape.kinds g kind family) days
      ≤ restrictions from y (ladder_of shape.kinds b kind family) days'

pub record YearJoined (shape : Shape) (a b : ℕ) (from book book' : List ℕ) (days days' : List WrittenDay) : Type 0
  where
    pub each : DaysJoined a b shape from days days'
    pub than_a : (kind family : ℕ) → HasLadder shape.kinds a kind family
        → NoFewer shape a b from book book' days days' kind family
    pub than_b : (kind family : ℕ) → HasLadder shape.kinds b kind family
        → NoFewer shape b b from book book' days days' kind family
    -- "all other groups' findings and totals are exactly as they were, and group a has none any more"
    pub others : (l : ℕ) → l < ladders shape.kinds → Other a b (group_at shape.kinds l)
        → total_at book' l ≡ total_at book l
    pub gone : (l : ℕ) → l < ladders shape.kinds → group_at shape.kinds l ≡ a → total_at book' l ≡ 0
