-- Day logs as the clerk reads them, and the same files with two groups joined in their tables: each gets the same
-- number, and the days and the books' files go on side by side. Assumes nothing.
use mathlib.Core.Path.{◌≡◌, refl, ap, ap₂, ◌∙◌}
use mathlib.Core.Bool.{Bool, true, false, not}
use mathlib.Core.List.{List, [], ◌∷◌, map}
use Prim.Native.Nat.{ℕ}
use borrow.Author.Tests.{eqb-true}
use lib.Dec.{eqb}
use lib.ListN.{length}
use Rattle.wire.specs.Choice.{pick, or_else}
use Rattle.wire.proofs.ChoiceLaws.{or_none, or_after}
use Rattle.daylog.specs.declared.record.Record.{Record}
use Rattle.daylog.specs.declared.header.Header.{Header}
use Rattle.daylog.specs.Header.{log_fault}
use Rattle.daylog.specs.Records.{record_length, record_of}
use Rattle.daylog.specs.Rows.{front, row_size, rows_of, is_end}
use Rattle.years.specs.Joined.{Two}
use Rattle.desk.specs.Open.{handed_fault}
use Rattle.desk.specs.End.{row_fault}
use Rattle.demands.specs.Days.{PastDay}
use Rattle.demands.specs.Paper.{day_in, take_number}
use Rattle.demands.specs.Logs.{clerk_counts, records_in, follow_fault, rows_number, log_number, day_book, ruled_file}
use Rattle.demands.specs.Logs.{ruled_logs}
use Rattle.demands.specs.Demand2.{History, logged_day, log_days, last_file}
use Rattle.demands.specs.Join.{join_log}
use Rattle.demands.proofs.CallLaws.{handed_parts}
use Rattle.demands.proofs.JoinTables.{header_stands}
use Rattle.demands.proofs.JoinFiles.{front_joined, rows_joined}
use Rattle.demands.proofs.JoinYears.{Years, book_same, years_day}
use Rattle.demands.proofs.JoinRun.{open_same, take_same}

abbrev on : List ℕ → List PastDay → History
on from days = record { from = from; days = days }

years_pick : {a b : ℕ} {from from' : List ℕ} (t : Bool) (days₁ days days₁' days' : List PastDay)
    (book₁ book book₁' book' : List ℕ)
    → (t ≡ true → Years a b (on from days₁) (on from' days₁') book₁ book₁')
    → Years a b (on from days) (on from' days') book book'
    → Years a b (on from (pick t days₁ days)) (on from' (pick t days₁' days')) (pick t book₁ book)
    (pick t book₁' book')
unfolding pick
years_pick true days₁ days days₁' days' book₁ book book₁' book' y n = y refl
years_pick false days₁ days days₁' days' book₁ book book₁' book' y n = n

module _ (a b : ℕ) (two : Two a b) where
  -- ---- the rows against tables without fault
  rows_same : (log : List ℕ) → log_fault log ≡ 0 → (rs : List Record) (rows : List (List ℕ))
      → rows_number (join_log a b log) rs rows ≡ rows_number log rs rows
  unfolding rows_number row_fault
  rows_same log e rs [] = refl
  rows_same log e rs (row ∷ more) =
      let end = or_else (row_fault (day_in log rs) row) (follow_fault more) in
      ap (λ (x : Header). pick (not (eqb (length row) (record_length x.version))) 1 (pick (is_end row) end
      (or_else (take_number (join_log a b log) rs row) (rows_number (join_log a b log) (record_of row ∷ rs) more))))
      (header_stands a b log two.first_a)
      ∙ ap₂ (λ (m n : ℕ). pick (not (eqb (length row) (row_size log))) 1 (pick (is_end row) end (or_else m n)))
      (take_same a b two log rs row e) (rows_same log e (record_of row ∷ rs) more)

  -- ---- one log, on the files of the two years so far
  module _ (from from' : List ℕ) (days days' : List PastDay) (book book' : List ℕ)
      (s : Years a b (on from days) (on from' days') book book') (log : List ℕ) where
    handed_same : handed_fault (front (join_log a b log)) book' clerk_counts
        ≡ handed_fault (front log) book clerk_counts
    handed_same =
        ap (λ (l : List ℕ). handed_fault l book' clerk_counts) (front_joined a b log two.first_a)
        ∙ open_same a b two (front log) book book' clerk_counts clerk_counts (book_same a b two _ _ book book' s) refl

    number_same : log_number book' (join_log a b log) ≡ log_number book log
    unfolding log_number
    number_same =
        ap (λ (n : ℕ). or_else n (rows_number (front (join_log a b log)) [] (rows_of (join_log a b log)))) handed_same
        ∙ or_after (handed_fault (front log) book clerk_counts) _ _
        (λ z.
        let e = (handed_parts (front log) book clerk_counts z).0 in
        ap₂ (λ (l : List ℕ) (rows : List (List ℕ)). rows_number l [] rows) (front_joined a b log two.first_a)
        (rows_joined a b log two.first_a e)
        ∙ rows_same (front log) e [] (rows_of log))

    -- an accepted log is a day more in both
    day_more : log_number book log ≡ 0
        → Years a b (on from (logged_day log ∷ days)) (on from' (logged_day (join_log a b log) ∷ days'))
        (day_book book log) (day_book book' (join_log a b log))
    unfolding log_number
    day_more z =
        let q = handed_parts (front log) book clerk_counts
        (or_none (handed_fault (front log) book clerk_counts) _ z).0 in
        rw (front_joined a b log two.first_a, rows_joined a b log two.first_a q.0)
        (years_day a b two _ _ book book' s (front log) (records_in [] (rows_of log)) q.0 q.1)

    log_years : Years a b
        (on from (pick (eqb (log_number book log) 0) (logged_day log ∷ days) days))
        (on from' (pick (eqb (log_number book' (join_log a b log)) 0) (logged_day (join_log a b log) ∷ days') days'))
        (ruled_file book log) (ruled_file book' (join_log a b log))
    unfolding ruled_file
    log_years = rw number_same (years_pick (eqb (log_number book log) 0) _ days _ days' _ book _ book'
        (λ e. day_more (eqb-true _ 0 e)) s)

  -- ---- any list of logs
  pub record Files (from from' : List ℕ) (days days' : List PastDay) (book book' : List ℕ)
      (logs : List (List ℕ)) : Type 0 where
    pub numbers : map (λ j. j.number) (ruled_logs book' (map (join_log a b) logs)) ≡ map (λ j. j.number)
        (ruled_logs book logs)
    pub years : Years a b (on from (log_days book days logs))
        (on from' (log_days book' days' (map (join_log a b) logs)))
        (last_file book (ruled_logs book logs)) (last_file book' (ruled_logs book' (map (join_log a b) logs)))

  pub files : (from from' : List ℕ) (days days' : List PastDay) (book book' : List ℕ) (logs : List (List ℕ))
      → Years a b (on from days) (on from' days') book book' → Files from from' days days' book book' logs
  unfolding ruled_logs log_days last_file
  files from from' days days' book book' [] s = record { numbers = refl; years = s }
  files from from' days days' book book' (log ∷ logs) s =
      let r = files from from' (pick (eqb (log_number book log) 0) (logged_day log ∷ days) days)
      (pick (eqb (log_number book' (join_log a b log)) 0) (logged_day (join_log a b log) ∷ days') days')
      (ruled_file book log) (ruled_file book' (join_log a b log)) logs
      (log_years from from' days days' book book' s log) in
      record {
        numbers = ap₂ {C = List ℕ} (λ x xs. x ∷ xs) (number_same from from' days days' book book' s log)
            r.numbers;
        years = r.years;
      }
