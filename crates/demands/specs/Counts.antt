-- 01, "What counts", over a day's tables and its records: how often, for whom, on which contract. No cells, no steps.
use Rattle.std.specs.Prelude.{ℕ, Bool, ◌&&◌, List, eqb}
use Rattle.wire.specs.Below.{some}
use Rattle.rules.specs.Measure.{times, enough, reached}
use Rattle.daylog.specs.declared.record.Record.{Record}
use Rattle.tables.specs.Tables.{Tables}
use Rattle.counts.specs.Counting.{counts_for}
use Rattle.places.specs.Places.{group_at, kind_at, family_at}
use Rattle.verdict.specs.Verdict.{Verdict}
use Rattle.years.specs.Days.{how_many}
use Rattle.desk.specs.Offences.{kinds_on, family_of, verdict_on}

-- how many records count for a group and a kind on the contract at a place: none that is exempt does
unfoldable pub times_of : Tables → List Record → (group kind place : ℕ) → ℕ
times_of t rs group kind place = how_many (λ r. counts_for t r group kind place) rs

-- the same for each ladder's group and kind
unfoldable pub times_on : Tables → List Record → (ladder place : ℕ) → ℕ
times_on t rs ladder place = times_of t rs (group_at (kinds_on t) ladder) (kind_at (kinds_on t) ladder) place

-- the contract at a place is of the family and has at least the number of records: "Reaching the number is enough."
unfoldable pub reaches_on : Tables → List Record → (group kind family place : ℕ) → Bool
reaches_on t rs group kind family place =
    eqb (family_of t place) family && reached (times (times_of t rs group kind place)) (enough t.text kind)

-- 01, "Ladders": "A group has one offence of a kind in a family on a day if any contract of the family reaches the
-- number."
unfoldable pub offence : Tables → List Record → (group kind family : ℕ) → Bool
offence t rs group kind family = some (reaches_on t rs group kind family) t.contracts

-- the same for each ladder's group, kind and family
abbrev pub reaches_at : Tables → List Record → (ladder place : ℕ) → Bool
reaches_at t rs ladder = reaches_on t rs (group_at (kinds_on t) ladder) (kind_at (kinds_on t) ladder) (family_at ladder)

abbrev pub offence_at : Tables → List Record → (ladder : ℕ) → Bool
offence_at t rs ladder = offence t rs (group_at (kinds_on t) ladder) (kind_at (kinds_on t) ladder) (family_at ladder)

-- what the day's end goes by, with the records' times
abbrev pub day_verdict : Tables → List Record → Verdict
day_verdict t rs = verdict_on t (times_on t rs)
