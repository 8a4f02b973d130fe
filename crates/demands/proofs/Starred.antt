-- The starred table holds. Its rows are computed, but for the two of a whole book: those follow from the laws of a
-- book that is written, as 12,304 bytes are too many to compute with. Assumes nothing.
use mathlib.Core.Path.{◌≡◌, refl}
use mathlib.Core.Bool.{Bool, true, false}
use mathlib.Core.List.{List, [], ◌∷◌}
use Prim.Native.Nat.{ℕ, zero, suc}
use native.Mathlib.Omega.{arith}
use lib.ListN.{take, drop}
use Rattle.wire.specs.Choice.{pick}
use Rattle.wire.specs.Below.{every, some, first}
use Rattle.calendar.specs.Dates.{real_day, month_days, days_in, day_number}
use Rattle.rules.specs.Choices.{by_three}
use Rattle.exemptions.specs.Exemption.{known, exempt}
use Rattle.rules.specs.Measure.{enough}
use Rattle.rules.specs.Ladders.{family, rung}
use Rattle.rules.specs.Kinds.{kinds_of, kinds_in, first_kind}
use Rattle.tables.specs.Accounts.{account_place, is_in, group_in}
use Rattle.tables.specs.ContractEntries.{contract_place}
use Rattle.tables.specs.Tables.{contract_of, group_of}
use Rattle.counts.specs.Counting.{plan_for, plan_of, counts_as, counts_for}
use Rattle.desk.specs.Offences.{family_of}
use Rattle.years.specs.Days.{how_many}
use Rattle.demands.specs.Counts.{times_of, reaches_on, offence}
use Rattle.demands.specs.Starred.{day_with, trade, cancel, self_trades, cancels, cancels_on_two, large_cancels}
use Rattle.demands.specs.Starred.{cancel_counts, starred, all_hold, Starred}
use Rattle.demands.proofs.SampleLaws.{one_sound, one_unsound}

-- ---- a table by its first row, and by its first n rows
hold_next : (row : Bool) (more : List Bool) → row ≡ true → all_hold more ≡ true → all_hold (row ∷ more) ≡ true
unfolding all_hold
hold_next row more p q = rw p q

hold_none : all_hold [] ≡ true
unfolding all_hold
hold_none = refl

hold_parts : (n : ℕ) (rows : List Bool) → all_hold (take n rows) ≡ true → all_hold (drop n rows) ≡ true
    → all_hold rows ≡ true
unfolding all_hold
hold_parts zero rows p q = q
hold_parts (suc n) [] p q = refl
hold_parts (suc n) (true ∷ rows) p q = hold_parts n rows p q
hold_parts (suc n) (false ∷ rows) p q = p

-- ---- the table, in parts: n rows from a place on
abbrev part : ℕ → ℕ → List Bool
part from n = take n (drop from starred)

larges : all_hold (part 0 7) ≡ true
unfolding starred all_hold
larges = refl

offences : all_hold (part 7 14) ≡ true
unfolding starred all_hold pick every some first by_three known exempt enough family is_in contract_of group_of
    group_in account_place contract_place plan_for plan_of counts_as counts_for family_of how_many times_of reaches_on
    offence day_with trade cancel self_trades cancels cancels_on_two large_cancels
offences = refl

dates : all_hold (part 21 2) ≡ true
unfolding starred all_hold pick real_day month_days
dates = refl

books : all_hold (part 23 2) ≡ true
unfolding starred pick real_day month_days days_in day_number kinds_of kinds_in first_kind
books =
    hold_next _ _ (one_sound _ _ _ (omega arith) refl (omega arith) refl)
    (hold_next _ _ (one_unsound _ _ _ (omega arith) (omega arith) (omega arith) refl) hold_none)

rungs : all_hold (part 25 4) ≡ true
unfolding starred all_hold pick rung
rungs = refl

records : all_hold (drop 29 starred) ≡ true
unfolding starred all_hold pick first known exempt is_in contract_of group_of group_in account_place contract_place
    plan_for plan_of counts_as counts_for day_with cancel cancel_counts
records = refl

pub starred_hold : Starred
unfolding starred
starred_hold =
    hold_parts 7 starred larges
    (hold_parts 14 (drop 7 starred) offences
    (hold_parts 2 (drop 21 starred) dates
    (hold_parts 2 (drop 23 starred) books
    (hold_parts 4 (drop 25 starred) rungs records))))
