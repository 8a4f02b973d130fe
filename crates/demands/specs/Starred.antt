-- 01, "Either side of each line": the starred cases as one table. Each row has the paper's words beside it; where the
-- paper says no, the row begins with `not`. A line that holds in both rulebooks has rows for 1 and then for 2.
use Rattle.std.specs.Prelude.{◌≡◌, ℕ, ◌+◌, Bool, true, not, ◌&&◌, List, [], ◌∷◌, ◌++◌, eqb, replicate}
use Rattle.wire.specs.Choice.{pick}
use Rattle.calendar.specs.Dates.{real_day}
use Rattle.rules.specs.declared.measure.Lots.{Lots}
use Rattle.rules.specs.Measure.{lots, large}
use Rattle.rules.specs.Ladders.{rung}
use Rattle.rules.specs.Kinds.{kinds_of}
use Rattle.places.specs.Places.{ladder_of}
use Rattle.book.specs.Sound.{sound}
use Rattle.daylog.specs.declared.record.Record.{Record}
use Rattle.tables.specs.Tables.{Tables}
use Rattle.counts.specs.Counting.{counts_for}
use Rattle.demands.specs.Counts.{offence}
use Rattle.demands.specs.Samples.{futures, clients_day, plain_trade, cancel_of, book_with_one}

-- ---- the days of the rows
-- futures contracts 101, 102 and so on with one largest order, all of product 0 and so of family 0 in both rulebooks;
-- accounts 11 and 12, clients of group 3
unfoldable pub day_with : (rulebook contracts largest : ℕ) → Tables
day_with rulebook contracts largest = clients_day rulebook contracts (λ place. futures (101 + place) largest)

-- account 11 buys and account 12 sells
unfoldable pub trade : Record
trade = plain_trade 11 12

-- account 11 cancels an ordinary order of an amount in lots, with an instruction, on a contract
unfoldable pub cancel : (contract amount instruction : ℕ) → Record
cancel contract amount instruction = cancel_of contract amount instruction 1

abbrev pub plain_limit : ℕ
plain_limit = 1

-- an instruction that is not exempt for kind 2: plain limit in rulebook 1, FOK in rulebook 2
abbrev pub countable : ℕ → ℕ
countable rulebook = pick (eqb rulebook 1) plain_limit 5

-- ---- what is asked of them: are these records an offence of group 3 in family 0 (1 self-trade, 2 frequent, 3 large)
-- n self-trades on a contract
unfoldable pub self_trades : (rulebook n : ℕ) → Bool
self_trades rulebook n = offence (day_with rulebook 1 1000) (replicate n trade) 3 1 0

-- n cancels of one lot on a contract
unfoldable pub cancels : (rulebook n : ℕ) → Bool
cancels rulebook n = offence (day_with rulebook 1 1000) (replicate n (cancel 101 1 (countable rulebook))) 3 2 0

-- n cancels of one lot on a contract and m on another of its family
unfoldable pub cancels_on_two : (rulebook n m : ℕ) → Bool
cancels_on_two rulebook n m =
    offence (day_with rulebook 2 1000)
    (replicate n (cancel 101 1 (countable rulebook)) ++ replicate m (cancel 102 1 (countable rulebook))) 3 2 0

-- n cancels, plain limit and ordinary, of an amount in lots on a contract with a largest order: as large ones
unfoldable pub large_cancels : (rulebook amount largest n : ℕ) → Bool
large_cancels rulebook amount largest n =
    offence (day_with rulebook 1 largest) (replicate n (cancel 101 amount plain_limit)) 3 3 0

-- ---- and of one record: does it count for group 3 and a kind on the contract at place 0
-- a cancel, plain limit and ordinary, of an amount in lots on a contract with a largest order
unfoldable pub cancel_counts : (rulebook amount largest kind : ℕ) → Bool
cancel_counts rulebook amount largest kind =
    counts_for (day_with rulebook 1 largest) (cancel 101 amount plain_limit) 3 kind 0

-- ---- and of a book
-- a book of rulebook 1 with a last date and one total that is not 0, that of group 1, kind 1, family 0
abbrev pub book_with : (date total : ℕ) → List ℕ
book_with date total = book_with_one (ladder_of (kinds_of 1) 1 1 0) date total

-- ---- and of an amount: large by a rulebook's text
abbrev pub large_in : ℕ → Lots → Lots → Bool
large_in rulebook = large (record { rulebook = rulebook })

-- ---- the table
unfoldable pub starred : List Bool
starred =
    -- "Large, rulebook 1, largest 1000: 800 no, 801 yes."
    not (large_in 1 (lots 800) (lots 1000))
    ∷ large_in 1 (lots 801) (lots 1000)
    -- "Rulebook 2, largest 50: 39 no, 40 yes."
    ∷ not (large_in 2 (lots 39) (lots 50))
    ∷ large_in 2 (lots 40) (lots 50)
    -- "Largest 9, 7 lots, rulebook 2: no."
    ∷ not (large_in 2 (lots 7) (lots 9))
    -- "Largest 1, 1 lot: yes in both."
    ∷ large_in 1 (lots 1) (lots 1)
    ∷ large_in 2 (lots 1) (lots 1)
    -- "Self-trades 4 no, 5 yes."
    ∷ not (self_trades 1 4)
    ∷ self_trades 1 5
    ∷ not (self_trades 2 4)
    ∷ self_trades 2 5
    -- "Cancels 499 no, 500 yes; 300 on each of two contracts, no."
    ∷ not (cancels 1 499)
    ∷ cancels 1 500
    ∷ not (cancels_on_two 1 300 300)
    ∷ not (cancels 2 499)
    ∷ cancels 2 500
    ∷ not (cancels_on_two 2 300 300)
    -- "Large 399 no, 400 yes (1); 99 no, 100 yes (2)."
    ∷ not (large_cancels 1 801 1000 399)
    ∷ large_cancels 1 801 1000 400
    ∷ not (large_cancels 2 40 50 99)
    ∷ large_cancels 2 40 50 100
    -- "20240229 is a date, 20230229 is not."
    ∷ real_day 20240229
    ∷ not (real_day 20230229)
    -- "Last date 20240105 with a total of 5 is sound, with 6 it is not."
    ∷ sound (book_with 20240105 5)
    ∷ not (sound (book_with 20240105 6))
    -- "Totals 1, 3, 4, 6 have rungs 1, 3, 1, 3."
    ∷ eqb (rung 1) 1
    ∷ eqb (rung 3) 3
    ∷ eqb (rung 4) 1
    ∷ eqb (rung 6) 3
    -- "Rulebook 2, plain limit, ordinary, 40 of 50: large only."
    ∷ not (cancel_counts 2 40 50 1)
    ∷ not (cancel_counts 2 40 50 2)
    ∷ cancel_counts 2 40 50 3
    -- "Rulebook 1, 801 of 1000: both."
    ∷ not (cancel_counts 1 801 1000 1)
    ∷ cancel_counts 1 801 1000 2
    ∷ cancel_counts 1 801 1000 3
    ∷ []

unfoldable pub all_hold : List Bool → Bool
all_hold [] = true
all_hold (row ∷ more) = row && all_hold more

-- every starred row holds
abbrev pub Starred : Type 0
Starred = all_hold starred ≡ true
