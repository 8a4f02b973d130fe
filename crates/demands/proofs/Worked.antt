-- Document 01's example comes out as it says, and so do the refusals of specs/Worked. Assumes nothing.
use mathlib.Core.Path.{◌≡◌, refl, sym, ap, ap₂, ◌∙◌}
use mathlib.Core.Bool.{Bool, true, false, not}
use mathlib.Core.List.{List, [], ◌∷◌}
use Prim.Native.Nat.{ℕ, ◌*◌, ◌<◌}
use native.Mathlib.Omega.{arith}
use borrow.Author.Tests.{eqb-true, eq-eqb, le-ltb}
use lib.Dec.{eqb, ltb}
use lib.ListN.{length, replicate, length-replicate}
use Rattle.wire.specs.Choice.{pick, or_else}
use Rattle.wire.specs.Outcomes.{answered}
use Rattle.wire.specs.Below.{every, some, count, first}
use Rattle.wire.specs.Bytes.{le, bytes}
use Rattle.wire.specs.Buffers.{put, rows}
use Rattle.wire.proofs.ChoiceLaws.{pick_yes, pick_no, flip_no, or_else_lem}
use Rattle.wire.proofs.AnswerLaws.{answer_refused}
use Rattle.wire.proofs.BelowLaws.{every_at, count_cong}
use Rattle.wire.proofs.BufferLaws.{rows_cong, put_whole}
use Rattle.calendar.specs.Dates.{real_day, month_days, days_in, day_number}
use Rattle.rules.specs.Choices.{by_three}
use Rattle.exemptions.specs.Exemption.{known, exempt}
use Rattle.rules.specs.Measure.{enough}
use Rattle.rules.specs.Ladders.{family, rung, sanction}
use Rattle.rules.specs.Kinds.{kinds_of, kinds_in, first_kind}
use Rattle.rules.proofs.KindLaws.{few, kinds_most}
use Rattle.places.specs.Places.{ladders, ladder_of, group_at, kind_at}
use Rattle.book.specs.Shape.{day_shape}
use Rattle.book.specs.Layout.{book_as}
use Rattle.book.specs.Sound.{sound_as, sound}
use Rattle.book.specs.Fits.{fits_fault, book_fault}
use Rattle.posting.specs.Fresh.{fresh_fault_as}
use Rattle.book.specs.Ask.{ask_fault_as, ask_answer_as}
use Rattle.posting.specs.Raise.{next_total}
use Rattle.daylog.specs.declared.record.Record.{Record}
use Rattle.tables.specs.ContractEntries.{contract_at, id_before, contracts_good, contract_place}
use Rattle.tables.specs.Accounts.{account_at, number_before, accounts_good, account_place, has_member, is_in, group_in}
use Rattle.daylog.specs.Header.{header_of, entries_fault, head_fault, log_fault, tables_of}
use Rattle.daylog.specs.Brokers.{brokers_wrong}
use Rattle.daylog.specs.Records.{record_length, record_of, record_good, end_good}
use Rattle.daylog.specs.Rows.{row_size}
use Rattle.tables.specs.Tables.{Tables, tables_in, contract_of, has_account, has_contract, group_of}
use Rattle.tables.specs.Tables.{member_on}
use Rattle.verdict.specs.Verdict.{Verdict, offends, found_count, finding, total_after, sanction_at, found_at, findings}
use Rattle.verdict.specs.Verdict.{book_after}
use Rattle.verdict.specs.Settle.{short_fault}
use Rattle.counts.specs.Counting.{plan_for, plan_of, counts_as, counts_for, fields_fault}
use Rattle.counts.specs.Weigh.{record_fault}
use Rattle.desk.specs.Open.{handed_fault}
use Rattle.desk.specs.Offences.{family_of, reached_at, lowest, lowest_on, verdict_on}
use Rattle.desk.specs.End.{row_fault}
use Rattle.years.specs.Days.{how_many}
use Rattle.years.proofs.TotalLaws.{book_cong}
use Rattle.demands.specs.Counts.{times_of, times_on, day_verdict}
use Rattle.demands.specs.Samples.{book_with_one}
use Rattle.demands.specs.Calls.{take_record, end_day, abandon_day, lend_findings, ended, number_in, full_room}
use Rattle.demands.specs.Paper.{idle, during, Paper, day_in, take_number, end_refusal, fresh_book, open_ruled}
use Rattle.demands.specs.Paper.{take_ruled, end_ruled, rule, rules, numbers_on, paper_after}
use Rattle.demands.specs.Logs.{clerk_counts}
use Rattle.demands.specs.Worked.{tables_for, worked_tables, trade_on, trade_row, end_row, worked_book, worked_desk}
use Rattle.demands.specs.Worked.{worked_trades, whole_day, worked_steps, worked_finding, found_by, Worked, no_book}
use Rattle.demands.specs.Worked.{wrong_mark, no_book_steps, just_opened, open_steps, short_out, short_out_steps}
use Rattle.demands.specs.Worked.{Refusals}
use Rattle.demands.proofs.CallLaws.{paper, stands_book, stands_out, runs_read, runs_stand}
use Rattle.demands.proofs.NumberLaws.{refusal}
use Rattle.demands.proofs.Answers.{answers}
use Rattle.demands.proofs.LogLaws.{clerk_rests}
use Rattle.demands.proofs.RuledSteps.{Goes, goes_one, goes_on, book_fits, opens, closes}
use Rattle.demands.proofs.SampleLaws.{one, one_rulebook, one_date, one_total, one_sound}

-- ---- the example's day
-- the records that it took, the latest first
worked_records : List Record
worked_records =
    record_of (trade_row 12 12) ∷ record_of (trade_row 11 12) ∷ record_of (trade_row 11 12)
    ∷ record_of (trade_row 11 12)
    ∷ record_of (trade_row 11 12) ∷ []

-- its tables, and what its end goes by
abbrev day : Tables
day = tables_of worked_tables

abbrev verdict : Verdict
verdict = day_verdict day worked_records

-- its header, and no fault in its tables
head_is : ((header_of worked_tables).rulebook ≡ 1) × ((header_of worked_tables).date ≡ 20240305)
    × ((header_of worked_tables).version ≡ 1)
unfolding header_of le worked_tables tables_for
head_is = (refl, refl, refl)

log_good : log_fault worked_tables ≡ 0
unfolding worked_tables tables_for log_fault head_fault entries_fault header_of contracts_good accounts_good contract_at
    account_at id_before number_before real_day month_days every le pick
log_good = refl

-- on any book and buffers, every trade is taken
trades_go : (book out : List ℕ) (len : ℕ)
    → Goes (paper (during worked_tables []) book out len) worked_trades (0 ∷ 0 ∷ 0 ∷ 0 ∷ 0 ∷ []) (0 ∷ 0 ∷ 0 ∷ 0 ∷ 0
    ∷ [])
    (paper (during worked_tables worked_records) book out len)
unfolding worked_trades worked_records worked_tables tables_for trade_on numbers_on rules paper_after rule take_ruled
    take_number record_fault brokers_wrong fields_fault has_contract has_account contract_of is_in contract_place
    account_place record_length record_good record_of answered tables_of tables_in header_of contract_at account_at
    first le or_else pick
trades_go book out len = record { numbers = refl; counts = refl; after = refl }

-- ---- which ladders have an offence: that of group 3, kind 1, family 0 alone
abbrev place : ℕ
place = ladder_of (kinds_of 1) 3 1 0

test_is : (t s : Bool) → pick t s (not s) ≡ true → s ≡ t
unfolding pick
test_is true s e = e
test_is false true e = cc
test_is false false e = refl

-- computed for each of the 6,144
one_tested : every (λ l. pick (eqb l place) (offends verdict l) (not (offends verdict l))) (ladders (kinds_of 1)) ≡ true
unfolding worked_records worked_tables tables_for trade_on kinds_of kinds_in first_kind verdict_on offends lowest_on
    lowest reached_at family_of times_on times_of how_many counts_for counts_as plan_of plan_for group_of group_in
    contract_of is_in contract_place account_place record_of tables_of tables_in header_of contract_at account_at
    family enough exempt known by_three first every le pick
one_tested = refl

one_hit : (l : ℕ) → l < ladders (kinds_of 1) → offends verdict l ≡ eqb l place
one_hit l h =
    test_is (eqb l place) _
    (every_at (λ k. pick (eqb k place) (offends verdict k) (not (offends verdict k))) (ladders (kinds_of 1)) l
    one_tested h)

one_counted : count (λ l. eqb l place) (ladders (kinds_of 1)) ≡ 1
unfolding count pick kinds_of kinds_in first_kind
one_counted = refl

-- the book's shape and the rulebook by which it goes
shape_is : (verdict.shape ≡ day_shape 1) × (verdict.rulebook ≡ 1)
unfolding verdict_on tables_of tables_in
shape_is = (ap day_shape head_is.0, head_is.0)

kinds_are : verdict.shape.kinds ≡ kinds_of 1
unfolding day_shape
kinds_are = ap (λ x. x.kinds) shape_is.0

found_one : found_count verdict ≡ 1
unfolding found_count
found_one =
    ap (λ k. count (offends verdict) (ladders k)) kinds_are
    ∙ count_cong (offends verdict) (λ l. eqb l place) (ladders (kinds_of 1)) one_hit ∙ one_counted

-- ---- the totals after the day, and the book
abbrev before : List ℕ
before = worked_book 20240304 1

-- one more where there is an offence, and nothing cleared
raised_one : (t : Bool) → next_total false t (pick t 1 0) ≡ pick t 2 0
unfolding next_total pick
raised_one true = refl
raised_one false = refl

total_is : (l : ℕ) → l < ladders (kinds_of 1) → total_after verdict 20240305 before l ≡ one place 2 l
unfolding total_after
total_is l h =
    rw (one_date place 20240304 1 (omega arith), one_hit l h, one_total place 20240304 1 (omega arith) l h)
    (raised_one (eqb l place))

book_is : book_after verdict 20240305 before ≡ worked_book 20240305 2
unfolding book_after book_with_one day_shape
book_is =
    ap₂ (λ s r. book_as s r 20240305 (total_after verdict 20240305 before)) shape_is.0 shape_is.1
    ∙ book_cong (day_shape 1) 1 1 20240305 (total_after verdict 20240305 before) (one place 2) refl total_is

-- ---- the one finding
-- what a ladder's finding is, with its total in hand
abbrev text_at : (l total : ℕ) → List ℕ
text_at l total =
    let k = kinds_of 1 in
    finding k l (sanction 1 (kind_at k l) (rung total) (verdict.member (group_at k l))) total
    (verdict.id (verdict.lowest l))

-- computed by its total, as 12,304 bytes of book are too many
text_is : text_at place 2 ≡ worked_finding
unfolding worked_finding worked_records worked_tables tables_for trade_on kinds_of kinds_in first_kind finding bytes
    sanction rung member_on has_member verdict_on lowest_on lowest reached_at family_of times_on times_of how_many
    counts_for counts_as plan_of plan_for group_of group_in contract_of is_in contract_place account_place record_of
    tables_of tables_in header_of contract_at account_at family enough exempt known by_three first some every le pick
text_is = refl

found_is : (l : ℕ) → l < ladders (kinds_of 1) → found_at verdict 20240305 before l
    ≡ pick (eqb l place) worked_finding []
unfolding found_at sanction_at pick
found_is l h = rw (total_is l h, one_hit l h, kinds_are, shape_is.1) (go (eqb l place) refl)
  where
    go : (t : Bool) → eqb l place ≡ t → pick t (text_at l (pick t 2 0)) [] ≡ pick t worked_finding []
    go true e = rw (eqb-true l place e) text_is
    go false e = refl

one_row : rows (λ l. pick (eqb l place) worked_finding []) (ladders (kinds_of 1)) ≡ worked_finding
unfolding rows pick worked_finding kinds_of kinds_in first_kind
one_row = refl

findings_are : findings verdict 20240305 before ≡ worked_finding
unfolding findings
findings_are =
    ap (λ k. rows (found_at verdict 20240305 before) (ladders k)) kinds_are
    ∙ rows_cong _ _ (ladders (kinds_of 1)) found_is ∙ one_row

-- ---- the book on which the day is opened
before_sound : sound before ≡ true
unfolding real_day month_days days_in day_number pick
before_sound = one_sound place 20240304 1 (omega arith) refl (omega arith) refl

book_good : book_fault (header_of worked_tables).rulebook (header_of worked_tables).date before ≡ 0
book_good =
    book_fits _ _ before before_sound (one_rulebook place 20240304 1 ∙ sym head_is.0)
    (omega (arith, one_date place 20240304 1 (omega arith), head_is.1))

-- ---- the day ended: 20 where the buffer has no room for the finding
pub row_long : length (end_row 5) ≡ record_length 1
unfolding end_row record_length pick
row_long = refl

row_good : row_fault (day_in worked_tables worked_records) (end_row 5) ≡ 0
unfolding worked_records end_row row_fault end_good le pick
row_good = refl

end_is : (room : ℕ) → end_refusal worked_tables worked_records (end_row 5) before room ≡ pick (ltb room 8) 20 0
unfolding end_refusal short_fault
end_is room =
    let long = eq-eqb (length (end_row 5)) (row_size worked_tables) (row_long ∙ ap record_length (sym head_is.2)) in
    sym (pick_no _ _ 1 _ (flip_no _ long) refl)
    ∙ or_else_lem (row_fault (day_in worked_tables worked_records) (end_row 5)) _ row_good
    ∙ or_else_lem (book_fault (header_of worked_tables).rulebook (header_of worked_tables).date before) _ book_good
    ∙ ap (λ (n : ℕ). pick (ltb room (8 * n)) 20 0) found_one

-- on a buffer: all five taken, and the day ended
module _ (out : List ℕ) where
  abbrev taken : Paper
  taken = paper (during worked_tables worked_records) before out clerk_counts

  abbrev closed : Paper
  closed = paper idle (worked_book 20240305 2) (put out 0 worked_finding) clerk_counts

  ends : ltb (length out) 8 ≡ false → Goes taken (end_day (end_row 5) ∷ []) (0 ∷ []) (1 ∷ []) closed
  ends h =
      rw (found_one, head_is.1, book_is, findings_are) at
      (closes worked_tables worked_records before out (end_row 5) (end_is (length out) ∙ sym (pick_no _ _ 20 0 h refl)))

  no_room : ltb (length out) 8 ≡ true → Goes taken (end_day (end_row 5) ∷ []) (20 ∷ []) (0 ∷ []) taken
  unfolding refusal rule end_ruled
  no_room h =
      let e : end_refusal worked_tables worked_records (end_row 5) before (length out) ≡ 20 =
      end_is (length out) ∙ sym (pick_yes _ _ 20 0 h refl) in
      let z = ap (λ (n : ℕ). eqb n 0) e in
      let answer = answer_refused _ _ _ 20 (sym e) (λ q. omega arith) in
      goes_one _ _ 20 0 _ e (ap (λ a. found_by (ended a)) (sym answer)) (sym (pick_no _ _ _ _ z refl))

-- ---- the example
worked_goes : (out : List ℕ) → ltb (length out) 8 ≡ false
    → Goes (paper idle before out clerk_counts) worked_steps
    (0 ∷ 0 ∷ 0 ∷ 0 ∷ 0 ∷ 0 ∷ 0 ∷ []) (0 ∷ 0 ∷ 0 ∷ 0 ∷ 0 ∷ 0 ∷ 1 ∷ []) (closed out)
unfolding worked_steps whole_day
worked_goes out h =
    goes_on (opens worked_tables before out log_good book_good)
    (goes_on (trades_go before out clerk_counts) (ends out h))

-- the clerk's buffer has room for it
roomy : ltb (length (replicate {A = ℕ} full_room 0)) 8 ≡ false
roomy =
    let long = length-replicate {A = ℕ} full_room 0 in
    le-ltb (length (replicate {A = ℕ} full_room 0)) 8 (omega (arith, long, (few (kinds_of 1)).0, kinds_most 1))

pub worked : Worked
unfolding numbers_on
worked =
    let all = answers worked_desk worked_steps in
    let out : List ℕ = replicate full_room 0 in
    let s = clerk_rests before in
    let g = worked_goes out roomy in
    let r = runs_stand s all.ran in
    record {
      given = all.given;
      ran = all.ran;
      numbered = runs_read (λ x. number_in x.reply) s all.ran ∙ g.numbers;
      count = runs_read (λ x. found_by x.reply) s all.ran ∙ g.counts;
      findings = stands_out r ∙ ap (λ (x : Paper). x.out) g.after;
      book = stands_book r ∙ ap (λ (x : Paper). x.book) g.after;
    }

-- ---- the refusals between
-- computed, as the book has no bytes; and as no call here comes to the book
no_book_lem : numbers_on no_book no_book_steps ≡ 10 ∷ 10 ∷ 10 ∷ 17 ∷ 4 ∷ 17 ∷ 2 ∷ 17 ∷ []
unfolding no_book no_book_steps wrong_mark worked_tables tables_for numbers_on rules rule open_ruled handed_fault
    fits_fault sound_as day_shape kinds_of kinds_in log_fault head_fault entries_fault header_of contracts_good
    accounts_good contract_at account_at id_before number_before real_day month_days fresh_fault_as fresh_book
    ask_answer_as ask_fault_as answered every le or_else pick
no_book_lem = refl

day_open : (p : Paper) → numbers_on (just_opened p) open_steps ≡ 10 ∷ 1 ∷ 11 ∷ 12 ∷ 13 ∷ 0 ∷ 15 ∷ 0 ∷ 10 ∷ []
unfolding just_opened open_steps worked_tables tables_for trade_on end_row numbers_on rules rule take_ruled
    take_number end_ruled end_refusal row_fault end_good record_fault brokers_wrong fields_fault has_contract
    has_account contract_of is_in contract_place account_place record_length record_good record_of answered tables_of
    tables_in header_of contract_at account_at first le or_else pick
day_open p = refl

-- the trades with a record of type 3 between
trades_refused : (book out : List ℕ) (len : ℕ)
    → Goes (paper (during worked_tables []) book out len)
    (take_record (trade_row 11 12) ∷ take_record (trade_row 11 12) ∷ take_record (end_row 2)
    ∷ take_record (trade_row 11 12) ∷ take_record (trade_row 11 12) ∷ take_record (trade_row 12 12) ∷ [])
    (0 ∷ 0 ∷ 11 ∷ 0 ∷ 0 ∷ 0 ∷ []) (0 ∷ 0 ∷ 0 ∷ 0 ∷ 0 ∷ 0
    ∷ []) (paper (during worked_tables worked_records) book out len)
unfolding worked_records worked_tables tables_for trade_on end_row numbers_on rules paper_after rule take_ruled
    take_number record_fault brokers_wrong fields_fault has_contract has_account contract_of is_in contract_place
    account_place record_length record_good record_of answered tables_of tables_in header_of contract_at account_at
    first le or_else pick
trades_refused book out len = record { numbers = refl; counts = refl; after = refl }

lends : (p : Paper) (out : List ℕ)
    → Goes p (lend_findings out ∷ []) (0 ∷ []) (0 ∷ []) (paper p.course p.book out p.len)
unfolding refusal rule
lends p out = goes_one p _ 0 0 _ refl refl refl

abandon_refused : (book out : List ℕ) (len : ℕ)
    → Goes (paper idle book out len) (abandon_day ∷ []) (10 ∷ []) (0 ∷ []) (paper idle book out len)
unfolding refusal rule
abandon_refused book out len = goes_one (paper idle book out len) _ 10 0 _ refl refl refl

short_goes : Goes short_out short_out_steps (0 ∷ 0 ∷ 0 ∷ 11 ∷ 0 ∷ 0 ∷ 0 ∷ 20 ∷ 0 ∷ 0 ∷ 10 ∷ [])
    (0 ∷ 0 ∷ 0 ∷ 0 ∷ 0 ∷ 0 ∷ 0 ∷ 0 ∷ 0 ∷ 1 ∷ 0 ∷ []) (closed (replicate 8 0))
unfolding short_out short_out_steps
short_goes =
    let short : List ℕ = replicate 7 0 in
    goes_on (opens worked_tables before short log_good book_good)
    (goes_on (trades_refused before short clerk_counts)
    (goes_on (no_room short refl)
    (goes_on (lends (taken short) (replicate 8 0))
    (goes_on (ends (replicate 8 0) refl) (abandon_refused _ _ clerk_counts)))))

pub refusals : Refusals
unfolding worked_finding
refusals = record {
  no_book_lem = no_book_lem;
  day_open = day_open;
  short_out_lem = short_goes.numbers;
  found = ap (λ (x : Paper). x.out) short_goes.after ∙ put_whole (replicate 8 0) worked_finding refl;
}
