-- The small year of specs/WorkedYear is a run of demand 3, with the numbers and the totals that it says.
-- Assumes nothing.
use mathlib.Core.Path.{◌≡◌, refl, sym, ap, ◌∙◌}
use mathlib.Core.Bool.{true}
use mathlib.Core.List.{List, [], ◌∷◌, ◌++◌}
use Prim.Native.Nat.{ℕ, ◌≤◌, ◌<◌}
use native.Mathlib.Omega.{arith}
use borrow.Author.Tests.{eq-eqb}
use lib.ListN.{length, replicate, length-replicate}
use Rattle.wire.specs.Choice.{pick, or_else}
use Rattle.wire.specs.Outcomes.{answered}
use Rattle.wire.specs.Below.{every, some, first}
use Rattle.wire.specs.Bytes.{le}
use Rattle.calendar.specs.Dates.{year, real_day, month_days}
use Rattle.rules.specs.Choices.{by_three}
use Rattle.exemptions.specs.Exemption.{known, exempt}
use Rattle.rules.specs.Measure.{enough}
use Rattle.rules.specs.Ladders.{family}
use Rattle.rules.specs.Kinds.{kinds_of, kinds_in, first_kind}
use Rattle.places.specs.Places.{ladders, ladder_of}
use Rattle.book.specs.Shape.{day_shape}
use Rattle.book.specs.Layout.{last_date, total_at}
use Rattle.daylog.specs.declared.record.Record.{Record}
use Rattle.tables.specs.ContractEntries.{contract_at, id_before, contracts_good, contract_place}
use Rattle.tables.specs.Accounts.{account_at, number_before, accounts_good, account_place, is_in, group_in}
use Rattle.daylog.specs.Header.{header_of, entries_fault, head_fault, log_fault, tables_of}
use Rattle.daylog.specs.Brokers.{brokers_wrong}
use Rattle.daylog.specs.Records.{record_length, record_of, record_good, end_good}
use Rattle.daylog.specs.Rows.{row_size}
use Rattle.tables.specs.Tables.{tables_in, contract_of, has_account, has_contract, group_of}
use Rattle.counts.specs.Counting.{plan_for, plan_of, counts_as, counts_for, fields_fault}
use Rattle.counts.specs.Weigh.{record_fault}
use Rattle.verdict.specs.Verdict.{offends}
use Rattle.years.specs.Days.{how_many, offence_on, offence_days, last_on}
use Rattle.years.specs.Written.{none as no_day}
use Rattle.years.proofs.TotalLaws.{kept, blank_rulebook, blank_date, blank_total}
use Rattle.desk.specs.Offences.{family_of, reached_at, lowest, lowest_on, verdict_on}
use Rattle.desk.specs.End.{row_fault}
use Rattle.demands.specs.Counts.{times_of, times_on}
use Rattle.demands.specs.Days.{PastDay, ended_day, all_written, blank}
use Rattle.demands.specs.Calls.{Step, number_in, Given, numbers, Ran, left, full_room}
use Rattle.demands.specs.Paper.{idle, during, Paper, day_in, take_number, take_ruled, rule, rules, numbers_on}
use Rattle.demands.specs.Paper.{paper_after}
use Rattle.demands.specs.Logs.{clerk_counts}
use Rattle.joining.specs.Joining.{by_place, join_bytes}
use Rattle.demands.specs.Join.{join_log}
use Rattle.demands.specs.Demand3.{opens as open_joins, takes, ends, StepsJoined, none, more, roomy, all_roomy}
use Rattle.demands.specs.Demand3.{full_size, FreshRun}
use Rattle.demands.specs.Worked.{tables_for, trade_on, trade_row, end_row, whole_day}
use Rattle.demands.specs.WorkedYear.{year_tables, year_desk, first_trades, second_trades, year_with, year_steps}
use Rattle.demands.specs.WorkedYear.{year_joined, WorkedYear}
use Rattle.demands.proofs.CallLaws.{paper, stands_book, runs_read, runs_stand}
use Rattle.demands.proofs.TotalLaws.{ready, Ended, ended_day_lem, good_sound, blank_sound}
use Rattle.demands.proofs.LogLaws.{end_plain, clerk_rests}
use Rattle.demands.proofs.Answers.{answers}
use Rattle.demands.proofs.PaperLaws.{written_room}
use Rattle.demands.proofs.RuledSteps.{Goes, goes_on, book_fits, opens, closes}
use Rattle.demands.proofs.Worked.{row_long}

-- ---- a day of five records by itself: tables without fault, records that are taken as `ns` says, on any book and
-- buffer
record DayGood (log : List ℕ) (trades : List Step) (ns ks : List ℕ) (rs : List Record) (date : ℕ) : Type 0 where
  good : log_fault log ≡ 0
  ours : (header_of log).rulebook ≡ 1
  dated : (header_of log).date ≡ date
  sized : (header_of log).version ≡ 1
  taken : (book out : List ℕ)
      → Goes (paper (during log []) book out clerk_counts) trades ns ks (paper (during log rs) book out clerk_counts)
  five : row_fault (day_in log rs) (end_row 5) ≡ 0

-- steps that leave no day open, these days on the book, and full room for findings
record Leaves (p : Paper) (cs : List Step) (ns : List ℕ) (days : List PastDay) : Type 0 where
  found : List ℕ
  book : List ℕ
  out : List ℕ
  goes : Goes p cs ns found (paper idle book out clerk_counts)
  kept : Ended (blank 1) days book
  room : full_room ≤ length out

-- such a day, on the book of the days before it
day_leaves : {log : List ℕ} {trades : List Step} {ns ks : List ℕ} {rs : List Record} {date : ℕ}
    {book : List ℕ}
    → DayGood log trades ns ks rs date → (out : List ℕ) (days : List PastDay) → Ended (blank 1) days book
    → last_on (blank 1) (all_written days) < date
    → full_room ≤ length out
    → Leaves (paper idle book out clerk_counts) (whole_day log trades) (0 ∷ (ns ++ (0 ∷ []))) (ended_day log rs ∷ days)
unfolding whole_day
day_leaves {log} {rs = rs} {book = book} d out days k later full =
    let same = (kept k).rulebook ∙ blank_rulebook (day_shape 1) 1 ∙ sym d.ours in
    let later : last_date book < (header_of log).date = omega (arith, (kept k).last, d.dated, later) in
    let good = good_sound (blank 1) days book k in
    let fits = book_fits (header_of log).rulebook (header_of log).date book good same later in
    let long = eq-eqb (length (end_row 5)) (row_size log) (row_long ∙ ap record_length (sym d.sized)) in
    let end = end_plain log rs (end_row 5) book (length out) long fits full ∙ d.five in record {
      found = _;
      book = _;
      out = _;
      goes =
          goes_on (opens log book out d.good fits)
          (goes_on (d.taken book out) (closes log rs book out (end_row 5) end));
      kept = ended_day_lem (blank 1) days log book rs k (ready log book d.good fits);
      room = written_room (tables_of log) rs (header_of log).date book out full;
    }

-- a day after others
leaves_on : {p : Paper} {cs ds : List Step} {ns ms : List ℕ} {days days' : List PastDay} (a : Leaves p cs ns days)
    → Leaves (paper idle a.book a.out clerk_counts) ds ms days' → Leaves p (cs ++ ds) (ns ++ ms) days'
leaves_on a b = record {
  found = _;
  book = b.book;
  out = b.out;
  goes = goes_on a.goes b.goes;
  kept = b.kept;
  room = b.room;
}

-- ---- the two days, with account 11 in a group
-- the records that they took, the latest first
first_records : List Record
first_records = record_of (trade_row 11 11) ∷ replicate 4 (record_of (trade_row 11 12))

second_records : List Record
second_records = replicate 5 (record_of (trade_row 11 11))

module _ (g : ℕ) where
  first_day : log_fault (year_tables 2 g) ≡ 0
      → DayGood (year_tables 2 g) first_trades (0 ∷ 0 ∷ 0 ∷ 0 ∷ 12 ∷ 0 ∷ []) (0 ∷ 0 ∷ 0 ∷ 0 ∷ 0 ∷ 0 ∷ [])
      first_records 20240102
  unfolding first_trades first_records year_tables tables_for trade_on end_row numbers_on rules paper_after rule
      take_ruled take_number record_fault brokers_wrong fields_fault has_contract has_account contract_of is_in
      contract_place account_place record_length record_good record_of answered tables_of tables_in header_of
      contract_at account_at row_fault end_good first le or_else pick
  first_day e =
      record {
        good = e;
        ours = refl;
        dated = refl;
        sized = refl;
        taken = λ book out. record { numbers = refl; counts = refl; after = refl };
        five = refl;
      }

  second_day : log_fault (year_tables 3 g) ≡ 0
      → DayGood (year_tables 3 g) second_trades (0 ∷ 0 ∷ 0 ∷ 0 ∷ 0 ∷ []) (0 ∷ 0 ∷ 0 ∷ 0 ∷ 0
      ∷ []) second_records 20240103
  unfolding second_trades second_records year_tables tables_for trade_on end_row numbers_on rules paper_after rule
      take_ruled take_number record_fault brokers_wrong fields_fault has_contract has_account contract_of is_in
      contract_place account_place record_length record_good record_of answered tables_of tables_in header_of
      contract_at account_at row_fault end_good first le or_else pick
  second_day e =
      record {
        good = e;
        ours = refl;
        dated = refl;
        sized = refl;
        taken = λ book out. record { numbers = refl; counts = refl; after = refl };
        five = refl;
      }

  abbrev year_days : List PastDay
  year_days = ended_day (year_tables 3 g) second_records ∷ ended_day (year_tables 2 g) first_records ∷ []

-- no fault in their tables, in group 3 and in group 4
tables_good : (log_fault (year_tables 2 3) ≡ 0) × (log_fault (year_tables 3 3) ≡ 0)
    × (log_fault (year_tables 2 4) ≡ 0) × (log_fault (year_tables 3 4) ≡ 0)
unfolding year_tables tables_for log_fault head_fault entries_fault header_of contracts_good accounts_good contract_at
    account_at id_before number_before real_day month_days every le pick
tables_good = (refl, refl, refl, refl)

-- ---- the year
full_room_lem : full_room ≤ length (replicate {A = ℕ} full_room 0)
full_room_lem = omega (arith, length-replicate {A = ℕ} full_room 0)

-- contract 102 is refused with 12
abbrev year_numbers : List ℕ
year_numbers = 0 ∷ 0 ∷ 0 ∷ 0 ∷ 0 ∷ 12 ∷ 0 ∷ 0 ∷ 0 ∷ 0 ∷ 0 ∷ 0 ∷ 0 ∷ 0 ∷ 0 ∷ []

module _ (g : ℕ) (e : log_fault (year_tables 2 g) ≡ 0) (f : log_fault (year_tables 3 g) ≡ 0) where
  year_leaves : (out : List ℕ) → full_room ≤ length out
      → Leaves (paper idle (blank 1) out clerk_counts) (year_with (year_tables 2 g) (year_tables 3 g)) year_numbers
      (year_days g)
  unfolding year_with last_on
  year_leaves out room =
      let none = no_day (blank_sound 1 refl) in
      let one = day_leaves (first_day g e) out [] none (omega (arith, blank_date (day_shape 1) 1)) room in
      leaves_on one
      (day_leaves (second_day g f) one.out _ one.kept (omega (arith, (first_day g e).dated)) one.room)

  -- on the clerk's buffers
  leaves : Leaves (paper idle (blank 1) (replicate full_room 0) clerk_counts)
      (year_with (year_tables 2 g) (year_tables 3 g))
      year_numbers (year_days g)
  leaves = year_leaves (replicate full_room 0) full_room_lem

  -- by the calls
  module _ {gs : List Given} (r : Ran year_desk (year_with (year_tables 2 g) (year_tables 3 g)) gs) where
    numbers_are : numbers gs ≡ year_numbers
    unfolding numbers_on
    numbers_are = runs_read (λ x. number_in x.reply) (clerk_rests (blank 1)) r ∙ leaves.goes.numbers

    -- the totals are the offence days of 2024
    total_is : (l : ℕ) → l < ladders (kinds_of 1) → total_at (left year_desk gs).book l
        ≡ offence_days 2024 l (all_written (year_days g))
    unfolding last_on day_shape
    total_is l h =
        let left-book = ap (λ (p : Paper). p.book) leaves.goes.after in
        let book = stands_book (runs_stand (clerk_rests (blank 1)) r) ∙ left-book in
        ap (λ (b : List ℕ). total_at b l) book
        ∙ (kept leaves.kept).total l (rw (blank_rulebook (day_shape 1) 1) h)
        ∙ blank_total (day_shape 1) 1 _ l (all_written (year_days g)) h
        ∙ ap (λ (d : ℕ). offence_days (year d) l (all_written (year_days g))) (second_day g f).dated

-- the ladder of a group's self-trades in family 0
abbrev selfs : ℕ → ℕ
selfs group = ladder_of (kinds_of 1) group 1 0

selfs_there : (group : ℕ) → group ≤ 128 → selfs group < ladders (kinds_of 1)
unfolding kinds_of kinds_in first_kind
selfs_there group h = omega arith

-- computed: of group 3 and of group 4, before and after
offences : (offence_days 2024 (selfs 3) (all_written (year_days 3)) ≡ 1)
    × (offence_days 2024 (selfs 4) (all_written (year_days 3)) ≡ 0)
    × (offence_days 2024 (selfs 3) (all_written (year_days 4)) ≡ 0)
    × (offence_days 2024 (selfs 4) (all_written (year_days 4)) ≡ 2)
unfolding year_tables tables_for trade_on first_records second_records offence_days offence_on offends verdict_on
    lowest_on lowest reached_at times_on times_of how_many family_of counts_for counts_as plan_of plan_for group_of
    group_in contract_of is_in contract_place account_place kinds_of kinds_in first_kind record_of tables_of tables_in
    header_of contract_at account_at family enough exempt known by_three first some every le pick
offences = (refl, refl, refl, refl)

-- ---- the year joined
tables_join : (join_log 3 4 (year_tables 2 3) ≡ year_tables 2 4) × (join_log 3 4 (year_tables 3 3) ≡ year_tables 3 4)
unfolding year_tables tables_for join_log join_bytes by_place header_of le pick
tables_join = (refl, refl)

joined_ran : {gs : List Given} → Ran year_desk year_joined gs
    → Ran year_desk (year_with (year_tables 2 4) (year_tables 3 4)) gs
unfolding year_joined
joined_ran r = rw (tables_join.0, tables_join.1) at r

-- each step is the same, but for the tables
year_joins : (a b : ℕ) (first second : List ℕ)
    → StepsJoined a b (year_with first second) (year_with (join_log a b first) (join_log a b second))
unfolding year_with whole_day first_trades second_trades
year_joins a b first second =
    more open_joins (more takes (more takes (more takes (more takes (more takes (more takes (more ends
    (more open_joins (more takes (more takes (more takes (more takes (more takes (more ends none))))))))))))))

-- no findings buffer is lent between
year_roomy : (first second : List ℕ) → all_roomy (year_with first second) ≡ true
unfolding year_with whole_day first_trades second_trades all_roomy roomy
year_roomy first second = refl

-- ---- the example
fresh_run : {cs : List Step} {gs : List Given} → Ran year_desk cs gs → FreshRun 1 year_desk cs gs
fresh_run r = record { known = refl; closed = refl; fresh = refl; ran = r }

pub worked_year : WorkedYear
unfolding year_steps year_joined
worked_year =
    let all = answers year_desk year_steps in
    let all' = answers year_desk year_joined in
    let r' = joined_ran all'.ran in
    let numbered = numbers_are 3 tables_good.0 tables_good.1 all.ran in
    let total = total_is 3 tables_good.0 tables_good.1 all.ran in
    let total' = total_is 4 tables_good.2 tables_good.3 r' in
    let third = selfs_there 3 (omega arith) in
    let fourth = selfs_there 4 (omega arith) in record {
      given = all.given;
      given' = all'.given;
      run = record {
        two = record {
          first_a = omega arith;
          last_a = omega arith;
          first_b = omega arith;
          last_b = omega arith;
          differ = λ e. omega arith;
        };
        run = fresh_run all.ran;
        joined = fresh_run all'.ran;
        steps = year_joins 3 4 _ _;
        out = full_room_lem;
        lent = year_roomy _ _;
        fair = full_size full_room_lem (year_roomy _ _) refl;
      };
      first_tables = tables_join.0;
      second_tables = tables_join.1;
      numbered = numbered;
      same_numbers = numbers_are 4 tables_good.2 tables_good.3 r' ∙ sym numbered;
      before_3 = total (selfs 3) third ∙ offences.0;
      before_4 = total (selfs 4) fourth ∙ offences.1;
      after_3 = total' (selfs 3) third ∙ offences.2;
      after_4 = total' (selfs 4) fourth ∙ offences.3;
    }
