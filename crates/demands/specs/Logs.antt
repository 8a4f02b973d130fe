-- 01, "The clerk's program": a day log as bytes, as the clerk reads it; by the calls, and by the rules alone.
use Rattle.std.specs.Prelude.{◌≡◌, true, false, not, List, [], ◌∷◌, ℕ, ◌*◌, eqb, length, replicate}
use Rattle.wire.specs.Choice.{pick, or_else}
use Rattle.wire.specs.Buffers.{put}
use Rattle.daylog.specs.declared.record.Record.{Record}
use Rattle.daylog.specs.Header.{header_of, tables_of}
use Rattle.daylog.specs.Records.{record_of}
use Rattle.daylog.specs.Rows.{front, row_size, rows_of, is_end}
use Rattle.rules.specs.Kinds.{most_kinds}
use Rattle.verdict.specs.Verdict.{findings, book_after}
use Rattle.desk.specs.declared.state.State.TheVariants.{Closed}
use Rattle.desk.specs.Open.{handed_fault}
use Rattle.desk.specs.End.{row_fault}
use Rattle.demands.specs.Counts.{day_verdict}
use Rattle.demands.specs.Calls.{open_day, take_record, end_day, number_in, Desk, desk_of, Given, Gives, full_room}
use Rattle.demands.specs.Paper.{day_in, take_number}

-- ---- by the calls: what the clerk makes of the rows, from a desk on which the day is open: number, and what is left
pub data Reads : Desk → List (List ℕ) → ℕ → Desk → Type 0 where
  -- "a cut-off log (1)": no end record, or a record that is cut off
  stops : {w : Desk} → Reads w [] 1 w
  cut : {w : Desk} {row : List ℕ} {more : List (List ℕ)} → eqb (length row) (row_size w.log) ≡ false
      → Reads w (row ∷ more) 1 w
  takes : {w w' : Desk} {row : List ℕ} {more : List (List ℕ)} {g : Given} {n : ℕ}
      → eqb (length row) (row_size w.log) ≡ true → is_end row ≡ false
      → Gives w (take_record row) g → number_in g.reply ≡ 0 → Reads g.after more n w' → Reads w (row ∷ more) n w'
  take_refused : {w : Desk} {row : List ℕ} {more : List (List ℕ)} {g : Given}
      → eqb (length row) (row_size w.log) ≡ true → is_end row ≡ false
      → Gives w (take_record row) g → (number_in g.reply ≡ 0 → ⊥)
      → Reads w (row ∷ more) (number_in g.reply) g.after
  end_refused : {w : Desk} {row : List ℕ} {more : List (List ℕ)} {g : Given}
      → eqb (length row) (row_size w.log) ≡ true → is_end row ≡ true
      → Gives w (end_day row) g → (number_in g.reply ≡ 0 → ⊥)
      → Reads w (row ∷ more) (number_in g.reply) g.after
  ends : {w : Desk} {row : List ℕ} {g : Given} → eqb (length row) (row_size w.log) ≡ true → is_end row ≡ true
      → Gives w (end_day row) g → number_in g.reply ≡ 0 → Reads w (row ∷ []) 0 g.after
  -- "bytes after the end record (1, only where the end itself is accepted)"
  follows : {w : Desk} {row next : List ℕ} {more : List (List ℕ)} {g : Given}
      → eqb (length row) (row_size w.log) ≡ true → is_end row ≡ true
      → Gives w (end_day row) g → number_in g.reply ≡ 0 → Reads w (row ∷ next ∷ more) 1 g.after

-- "It .. has 12,288 counts of its own, all zero at the start": enough for every rulebook
abbrev pub clerk_counts : ℕ
clerk_counts = 4096 * most_kinds

-- "It reads the book from the file"
abbrev pub clerk_desk : List ℕ → Desk
clerk_desk book = desk_of Closed [] (replicate clerk_counts 0) book (replicate full_room 0)

pub data Judges (book log : List ℕ) : ℕ → Desk → Type 0 where
  open_refused : {g : Given} → Gives (clerk_desk book) (open_day (front log)) g → (number_in g.reply ≡ 0 → ⊥)
      → Judges book log (number_in g.reply) g.after
  opened : {g : Given} {n : ℕ} {w : Desk} → Gives (clerk_desk book) (open_day (front log)) g → number_in g.reply ≡ 0
      → Reads g.after (rows_of log) n w → Judges book log n w

-- "prints only `refused N` and leaves the file"; else the book is written back
abbrev pub file_after : List ℕ → ℕ → Desk → List ℕ
file_after book n w = pick (eqb n 0) w.book book

-- ---- by the rules alone
-- the records before the end record, the latest first
unfoldable pub records_in : List Record → List (List ℕ) → List Record
records_in rs [] = rs
records_in rs (row ∷ more) = pick (is_end row) rs (records_in (record_of row ∷ rs) more)

-- the refusal for what follows an end record that is accepted, 0 where nothing does
abbrev pub follow_fault : List (List ℕ) → ℕ
follow_fault [] = 0
follow_fault (next ∷ more) = 1

-- the number of the refusal that the rows bring, 0 for none
unfoldable pub rows_number : List ℕ → List Record → List (List ℕ) → ℕ
rows_number tables rs [] = 1
rows_number tables rs (row ∷ more) =
    pick (not (eqb (length row) (row_size tables))) 1
    (pick (is_end row) (or_else (row_fault (day_in tables rs) row) (follow_fault more))
    (or_else (take_number tables rs row) (rows_number tables (record_of row ∷ rs) more)))

-- opening comes before the rows
unfoldable pub log_number : (book log : List ℕ) → ℕ
log_number book log = or_else (handed_fault (front log) book clerk_counts) (rows_number (front log) [] (rows_of log))

-- the findings as bytes, and the book after the day
abbrev pub day_findings : (book log : List ℕ) → List ℕ
day_findings book log =
    findings (day_verdict (tables_of (front log)) (records_in [] (rows_of log))) (header_of (front log)).date book

abbrev pub day_book : (book log : List ℕ) → List ℕ
day_book book log =
    book_after (day_verdict (tables_of (front log)) (records_in [] (rows_of log))) (header_of (front log)).date book

-- the file after a log: the day's book where the log is accepted, and else as it was
unfoldable pub ruled_file : List ℕ → List ℕ → List ℕ
ruled_file book log = pick (eqb (log_number book log) 0) (day_book book log) book

-- ---- a list of day logs, each judged on the file that the one before left
-- the refusal's number, the findings buffer where there was none, and the file
pub record Judged : Type 0 where
  pub number : ℕ
  pub printed : List ℕ
  pub book : List ℕ

abbrev pub printed_of : ℕ → List ℕ → List ℕ
printed_of n out = pick (eqb n 0) out []

pub data JudgesAll : List ℕ → List (List ℕ) → List Judged → Type 0 where
  none : {book : List ℕ} → JudgesAll book [] []
  next : {book log : List ℕ} {logs : List (List ℕ)} {n : ℕ} {w : Desk} {js : List Judged} → Judges book log n w
      → JudgesAll (file_after book n w) logs js
      → JudgesAll book (log ∷ logs)
      (record { number = n; printed = printed_of n w.out; book = file_after book n w } ∷ js)

-- the same by the rules
unfoldable pub ruled_logs : List ℕ → List (List ℕ) → List Judged
ruled_logs book [] = []
ruled_logs book (log ∷ logs) = record {
  number = log_number book log;
  printed = printed_of (log_number book log) (put (replicate full_room 0) 0 (day_findings book log));
  book = ruled_file book log;
} ∷ ruled_logs (ruled_file book log) logs
