-- "Findings don't depend on brokers": the theorems to specs/WhoeverSent. Assumes nothing.
use mathlib.Core.Path.{◌≡◌, refl, sym, ap, ap₂, ◌∙◌, subst}
use mathlib.Core.Bool.{Bool, true, false}
use mathlib.Core.List.{List, [], ◌∷◌, map}
use Prim.Native.Nat.{ℕ, ◌+◌}
use borrow.Author.Tests.{eqb-true}
use lib.Dec.{eqb}
use lib.ListN.{length, replicate}
use Rattle.std.specs.Prelude.{Ok}
use Rattle.wire.specs.Choice.{pick, or_else}
use Rattle.wire.specs.Outcomes.{answered, refused}
use Rattle.wire.specs.Buffers.{put}
use Rattle.wire.proofs.ChoiceLaws.{or_none}
use Rattle.daylog.specs.declared.record.Record.{Record}
use Rattle.daylog.specs.Header.{header_of, tables_of}
use Rattle.daylog.specs.Records.{record_of}
use Rattle.daylog.specs.Rows.{front, rows_of}
use Rattle.verdict.specs.Verdict.{found_count, findings, book_after}
use Rattle.verdict.specs.Settle.{written}
use Rattle.desk.specs.declared.state.State.TheVariants.{Closed, Open}
use Rattle.counts.specs.Weigh.{reasons_in}
use Rattle.counts.specs.Counting.{reasons_of}
use Rattle.desk.specs.Open.{handed_fault}
use Rattle.demands.specs.Counts.{day_verdict}
use Rattle.demands.specs.Calls.{Step, moved, took, ended, full_room}
use Rattle.demands.specs.Paper.{Course, idle, during, Paper, Ruled, day_in, take_number, end_refusal, open_ruled}
use Rattle.demands.specs.Paper.{take_ruled, end_ruled, rule, rules}
use Rattle.demands.specs.Logs.{clerk_counts, records_in, rows_number, log_number, day_findings, day_book, ruled_file}
use Rattle.demands.specs.Logs.{printed_of, ruled_logs}
use Rattle.demands.specs.Demand1.{values_in}
use Rattle.demands.specs.Demand2.{Seen}
use Rattle.demands.specs.WhoeverSent.{SameTables, SameStep, opens, takes, ends, takes_none, ends_none}
use Rattle.demands.specs.WhoeverSent.{makes, abandons, asks, lends, SameSteps, none, more, Told, told_by}
use Rattle.demands.specs.WhoeverSent.{WhoeverSent, SameLog, SameLogs, WhoeverSentLogs}
use Rattle.demands.proofs.CallLaws.{paper, begins, runs_read}
use Rattle.demands.proofs.Demand2.{logs_ruled}
use Rattle.demands.proofs.SentLaws.{date_same, tables_same, handed_same, take_same, taken_same}
use Rattle.demands.proofs.SentLaws.{end_number_same, rows_same, records_same}

-- ---- side by side: both idle, or both open with the same records taken
data Twin : Course → Course → Type 0 where
  both_idle : Twin idle idle
  both_open : {log log' : List ℕ} {rs : List Record} → SameTables log log' → Twin (during log rs) (during log' rs)

abbrev told_of : Ruled → Told
told_of r = told_by r.reply r.after.book r.after.out

record Beside (r r' : Ruled) : Type 0 where
  told : told_of r ≡ told_of r'
  course : Twin r.after.course r'.after.course
  len : r.after.len ≡ r'.after.len

module _ (book out : List ℕ) (len n : ℕ) where
  -- what opening, taking and ending come to by the number n, and by whether that is 0
  abbrev on : Course → Paper
  on course = paper course book out len

  abbrev opened : List ℕ → Bool → Ruled
  opened log t = record {
    reply = moved (pick t (Ok (Open (day_in log []))) (refused n));
    after = pick t (on (during log [])) (on idle);
  }

  open_step : (log log' : List ℕ) → SameTables log log'
      → Beside (open_ruled (on idle) log n) (open_ruled (on idle) log' n)
  unfolding open_ruled answered pick values_in
  open_step log log' s = go (eqb n 0)
    where
      go : (t : Bool) → Beside (opened log t) (opened log' t)
      go true = record { told = refl; course = both_open s; len = refl }
      go false = record { told = refl; course = both_idle; len = refl }

  module _ (log log' : List ℕ) (rs : List Record) (s : SameTables log log') where
    abbrev taken : (log row : List ℕ) → Bool → Ruled
    taken l row t = record {
      reply =
          let next = Open (record { head = header_of l; taken = length rs + 1 }) in
          took (pick t (Ok (next, reasons_in l row)) (refused n));
      after = pick t (on (during l (record_of row ∷ rs))) (on (during l rs));
    }

    take_step : (row row' : List ℕ) → (n ≡ 0 → record_of row ≡ record_of row')
        → Beside (take_ruled (on (during log rs)) log rs row n) (take_ruled (on (during log' rs)) log' rs row' n)
    unfolding take_ruled answered pick values_in
    take_step row row' same = go (eqb n 0) refl
      where
        go : (t : Bool) → eqb n 0 ≡ t → Beside (taken log row t) (taken log' row' t)
        go true e = record {
          told =
              λ i.
              told_by (took (Ok (Closed, reasons_of (tables_same log log' s i) (same (eqb-true n 0 e) i)))) book out;
          course = subst (λ (r : Record). Twin (during log (record_of row ∷ rs)) (during log' (r ∷ rs)))
              (same (eqb-true n 0 e)) (both_open s);
          len = refl;
        }
        go false e = record { told = refl; course = both_open s; len = refl }

    abbrev closed : List ℕ → Bool → Ruled
    closed l t =
        let v = day_verdict (tables_of l) rs in
        let buffers = written v (header_of l).date book out in record {
          reply = ended (pick t (Ok (Closed, found_count v)) (refused n));
          after = pick t (paper idle buffers.0 buffers.1 len) (on (during l rs));
        }

    end_step : Beside (end_ruled (on (during log rs)) log rs n) (end_ruled (on (during log' rs)) log' rs n)
    unfolding end_ruled answered pick
    end_step = go (eqb n 0)
      where
        go : (t : Bool) → Beside (closed log t) (closed log' t)
        go true = record {
          told =
              λ i.
              let v = day_verdict (tables_same log log' s i) rs in
              let buffers = written v (date_same log log' s i) book out in
              told_by (ended (Ok (Closed, found_count v))) buffers.0 buffers.1;
          course = both_idle;
          len = refl;
        }
        go false = record { told = refl; course = both_open s; len = refl }

-- ---- any step
module _ (book out : List ℕ) (len : ℕ) where
  step : {course course' : Course} {c c' : Step} → Twin course course' → SameStep course course' c c'
      → Beside (rule (paper course book out len) course c) (rule (paper course' book out len) course' c')
  unfolding rule
  step t makes = record { told = refl; course = t; len = refl }
  step t asks = record { told = refl; course = t; len = refl }
  step t lends = record { told = refl; course = t; len = refl }
  step both_idle abandons = record { told = refl; course = both_idle; len = refl }
  step both_idle takes_none = record { told = refl; course = both_idle; len = refl }
  step both_idle ends_none = record { told = refl; course = both_idle; len = refl }
  step both_idle (opens {log = log} {log'} s) =
      rw (handed_same log log' s book len) (open_step book out len (handed_fault log' book len) log log' s)
  step (both_open s) abandons = record { told = refl; course = both_idle; len = refl }
  step (both_open s) (opens q) = record { told = refl; course = both_open s; len = refl }
  step (both_open {log} {log'} {rs} s) (takes {row = row} {row'} r) =
      rw (← take_same log log' s rs row row' r)
      (take_step book out len (take_number log rs row) log log' rs s row row' (taken_same log log' s rs row row' r))
  step (both_open {log} {log'} {rs} s) (ends {row = row} {row'} r) =
      rw (← end_number_same log log' s rs row row' book (length out) r)
      (end_step book out len (end_refusal log rs row book (length out)) log log' rs s)

-- and any list of them
steps_told : (course course' : Course) (book book' out out' : List ℕ) (len len' : ℕ) {cs cs' : List Step}
    → Twin course course' → book ≡ book' → out ≡ out' → len ≡ len'
    → SameSteps (paper course book out len) (paper course' book' out' len') cs cs'
    → map told_of (rules (paper course book out len) cs) ≡ map told_of (rules (paper course' book' out' len') cs')
unfolding rules
steps_told course course' book book' out out' len len' t eb eo el none = refl
steps_told course course' book book' out out' len len' t eb eo el (more {c = c} {c'} q more-steps) =
    let b : Beside (rule (paper course book out len) course c) (rule (paper course' book' out' len') course' c') =
    rw (eb, eo, el) (step book' out' len' t q) in
    ap₂ {C = List Told} (λ x xs. x ∷ xs) b.told
    (steps_told _ _ _ _ _ _ _ _ b.course (ap (λ x. x.book) b.told) (ap (λ x. x.out) b.told) b.len
    more-steps)

pub whoever_sent : WhoeverSent
whoever_sent w w' cs cs' gs gs' r =
    let read : Seen → Told = λ x. told_by x.reply x.book x.out in
    runs_read read (begins w r.closed) r.ran
    ∙ steps_told idle idle w.book w'.book w.out w'.out (length w.counts) (length w'.counts) both_idle
    r.book r.out r.counts r.steps
    ∙ sym (runs_read read (begins w' r.closed') r.ran')

-- ---- a day log
-- where the numbers are the same and what is chosen by 0 is, the choice is
by_number : {A : Type 0} (n n' : ℕ) (x x' y : A) → n ≡ n' → (n ≡ 0 → x ≡ x')
    → pick (eqb n 0) x y ≡ pick (eqb n' 0) x' y
unfolding pick
by_number n n' x x' y e same = go (eqb n 0) refl ∙ ap (λ (m : ℕ). pick (eqb m 0) x' y) e
  where
    go : (t : Bool) → eqb n 0 ≡ t → pick (eqb n 0) x y ≡ pick (eqb n 0) x' y
    go true q = rw q (same (eqb-true n 0 q))
    go false q = rw q

module _ (book log log' : List ℕ) (s : SameLog log log') where
  rows_number_is : rows_number (front log) [] (rows_of log) ≡ rows_number (front log') [] (rows_of log')
  rows_number_is = rows_same (front log) (front log') s.tables [] s.rows

  log_number_is : log_number book log ≡ log_number book log'
  unfolding log_number
  log_number_is = ap₂ or_else (handed_same (front log) (front log') s.tables book clerk_counts) rows_number_is

  records : log_number book log ≡ 0 → records_in [] (rows_of log) ≡ records_in [] (rows_of log')
  unfolding log_number
  records z =
      records_same (front log) (front log') s.tables [] s.rows
      (or_none (handed_fault (front log) book clerk_counts) _ z).1

  found_same : log_number book log ≡ 0 → day_findings book log ≡ day_findings book log'
  found_same z =
      let tables = tables_same (front log) (front log') s.tables in
      λ i. findings (day_verdict (tables i) (records z i)) (date_same (front log) (front log') s.tables i) book

  after_same : log_number book log ≡ 0 → day_book book log ≡ day_book book log'
  after_same z =
      let tables = tables_same (front log) (front log') s.tables in
      λ i. book_after (day_verdict (tables i) (records z i)) (date_same (front log) (front log') s.tables i) book

  file_same : ruled_file book log ≡ ruled_file book log'
  unfolding ruled_file
  file_same = by_number _ _ _ _ book log_number_is after_same

  printed_same : printed_of (log_number book log) (put (replicate full_room 0) 0 (day_findings book log))
      ≡ printed_of (log_number book log') (put (replicate full_room 0) 0 (day_findings book log'))
  printed_same = by_number _ _ _ _ [] log_number_is (λ z. ap (put (replicate full_room 0) 0) (found_same z))

-- and any list of them
ruled_same : (book : List ℕ) {logs logs' : List (List ℕ)} → SameLogs logs logs'
    → ruled_logs book logs ≡ ruled_logs book logs'
unfolding ruled_logs
ruled_same book none = refl
ruled_same book (more {log} {log'} {logs} {logs'} s q) =
    let after = ruled_same (ruled_file book log) q
    ∙ ap (λ (b : List ℕ). ruled_logs b logs') (file_same book log log' s) in
    λ i. record {
      number = log_number_is book log log' s i;
      printed = printed_same book log log' s i;
      book = file_same book log log' s i;
    } ∷ after i

pub whoever_sent_logs : WhoeverSentLogs
whoever_sent_logs book logs logs' js js' s r r' =
    logs_ruled book logs js r ∙ ruled_same book s ∙ sym (logs_ruled book logs' js' r')
