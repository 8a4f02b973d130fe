-- 01, "Ladders": a day's offences, from a number of times for each contract. Over any counts: those in the cells, or
-- the records'.
use Rattle.std.specs.Prelude.{ℕ, Bool, ◌&&◌, eqb}
use Rattle.wire.specs.Below.{first}
use Rattle.rules.specs.declared.text.Text.{Text}
use Rattle.rules.specs.declared.kinds.Kinds.{Kinds}
use Rattle.rules.specs.Kinds.{kinds_of}
use Rattle.rules.specs.Measure.{times, enough, reached}
use Rattle.rules.specs.Ladders.{family}
use Rattle.tables.specs.Tables.{Tables, member_on}
use Rattle.places.specs.Places.{kind_at, family_at}
use Rattle.book.specs.Shape.{day_shape}
use Rattle.verdict.specs.Verdict.{Verdict}

-- the kinds of a day's rulebook
abbrev pub kinds_on : Tables → Kinds
kinds_on t = kinds_of t.text.rulebook

-- the family of the contract at a place
unfoldable pub family_of : Tables → ℕ → ℕ
family_of t place = family t.text (t.contract place).sort (t.contract place).product

-- ---- by the families of the contracts, and the times of each for the ladder's group and kind
module _ (families : ℕ → ℕ) (contracts : ℕ) (text : Text) (kinds : Kinds) (counted : ℕ → ℕ) (ladder : ℕ) where
  -- the contract at a place is of the ladder's family, and "Reaching the number is enough"
  unfoldable pub reached_at : ℕ → Bool
  reached_at place =
      eqb (families place) (family_at ladder) && reached (times (counted place)) (enough text (kind_at kinds ladder))

  -- the lowest place of a contract that reached the number, or the number of contracts where none did
  unfoldable pub lowest : ℕ
  unfolding reached_at
  lowest = first reached_at contracts

-- the same on a day's tables, with the times for each ladder and place
unfoldable pub lowest_on : Tables → (ℕ → ℕ → ℕ) → ℕ → ℕ
lowest_on t counted ladder = lowest (family_of t) t.contracts t.text (kinds_on t) (counted ladder) ladder

-- what the day's end goes by
unfoldable pub verdict_on : Tables → (ℕ → ℕ → ℕ) → Verdict
verdict_on t counted = record {
  shape = day_shape t.text.rulebook;
  rulebook = t.text.rulebook;
  contracts = t.contracts;
  id = λ place. (t.contract place).id;
  member = member_on t;
  lowest = lowest_on t counted;
}
