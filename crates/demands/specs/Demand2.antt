-- Demand 2: "Over any run of day logs that nobody else interferes with, findings, totals and sanctions are those of
-- the exchanges' texts as the specification condenses them; a finding is listed exactly when, on some contract,
-- enough records that are not exempt count for the group." The statements; proofs/Demand2 has the theorems under the
-- same names.
use Rattle.std.specs.Prelude.{◌≡◌, true, false, List, [], ◌∷◌, map, ◌++◌, ℕ, ◌<◌, eqb, length, replicate}
use Rattle.wire.specs.Choice.{pick}
use Rattle.wire.specs.Buffers.{put}
use Rattle.calendar.specs.Dates.{year}
use Rattle.rules.specs.Kinds.{kinds_of}
use Rattle.book.specs.Shape.{rulebook_of, shape_of}
use Rattle.places.specs.Places.{ladders}
use Rattle.book.specs.Layout.{last_date, total_at}
use Rattle.book.specs.Sound.{sound}
use Rattle.daylog.specs.declared.record.Record.{Record}
use Rattle.daylog.specs.Header.{log_fault, tables_of}
use Rattle.daylog.specs.Rows.{front, rows_of}
use Rattle.tables.specs.Tables.{Tables}
use Rattle.verdict.specs.Verdict.{offends, findings, found_count}
use Rattle.years.specs.Days.{carried, total_over, book_over, found_over}
use Rattle.years.specs.Restrictions.{Sanctioned}
use Rattle.desk.specs.Books.{fresh_fault}
use Rattle.desk.specs.declared.state.State.TheVariants.{Closed}
use Rattle.desk.specs.Offences.{lowest_on}
use Rattle.demands.specs.Counts.{times_on, reaches_at, offence_at, day_verdict}
use Rattle.demands.specs.Days.{PastDay, ended_day, written, all_written, blank}
use Rattle.demands.specs.Listed.{Lists}
use Rattle.demands.specs.Calls.{Step, make_book, open_day, take_record, end_day, abandon_day, ask_book, lend_findings}
use Rattle.demands.specs.Calls.{Reply, number_in, Desk, Given, Gives, Ran, left, full_room}
use Rattle.demands.specs.Logs.{records_in, log_number, ruled_file, Judges, Judged, JudgesAll, ruled_logs}
use Rattle.demands.specs.Paper.{Course, idle, during, Paper, Ruled, end_refusal, fresh_book, rule, rules}
use Rattle.demands.specs.Lent.{last_opened, CountsHold}

-- ---- any list of steps
-- what a caller sees of a step: its answer, and the book and the findings buffer as bytes
pub record Seen : Type 0 where
  pub reply : Reply
  pub book : List ℕ
  pub out : List ℕ

abbrev pub seen : Given → Seen
seen g = record { reply = g.reply; book = g.after.book; out = g.after.out }

abbrev pub ruled : Ruled → Seen
ruled r = record { reply = r.reply; book = r.after.book; out = r.after.out }

-- the paper that goes with a desk on which no day is open
abbrev pub begun : Desk → Paper
begun w = record { course = idle; book = w.book; out = w.out; len = length w.counts }

-- every answer, every refusal's number, the findings and the book are those of the rules; for any book and buffers
abbrev pub CallsRuled : Type 0
CallsRuled = (w : Desk) (cs : List Step) (gs : List Given) → w.state ≡ Closed → Ran w cs gs
    → map seen gs ≡ map ruled (rules (begun w) cs)

-- and the lent counts hold what the records of the day last opened count for
abbrev pub CellsCounted : Type 0
CellsCounted = (w : Desk) (cs : List Step) (gs : List Given) → w.state ≡ Closed → Ran w cs gs
    → CountsHold (last_opened (begun w) idle cs) w.counts (left w gs).counts

-- ---- refusals 17 and 19 never come of our own doing
pub data None (number : ℕ) : List Given → Type 0 where
  none : None number []
  more : {g : Given} {gs : List Given} → (number_in g.reply ≡ number → ⊥) → None number gs → None number (g ∷ gs)

abbrev pub NeverChanged : Type 0
NeverChanged = (w : Desk) (cs : List Step) (gs : List Given) → w.state ≡ Closed → Ran w cs gs → None 19 gs

-- a run from a sound book, fresh or not, with no day open
pub record SoundRun (w : Desk) (cs : List Step) (gs : List Given) : Type 0 where
  pub closed : w.state ≡ Closed
  pub good : sound w.book ≡ true
  pub ran : Ran w cs gs

abbrev pub NeverUnsound : Type 0
NeverUnsound = (w : Desk) (cs : List Step) (gs : List Given) → SoundRun w cs gs → None 17 gs

-- ---- a day's findings
-- a day's end goes by the records: "one offence of a kind in a family on a day if any contract of the family reaches
-- the number", and none else. So what is said of days as they were written is said of their records
abbrev pub OffencesCounted : Type 0
OffencesCounted = (t : Tables) (rs : List Record) (ladder : ℕ)
    → offends (day_verdict t rs) ladder ≡ offence_at t rs ladder

abbrev pub FindingsListed : Type 0
FindingsListed = (t : Tables) (rs : List Record) (date : ℕ) (book : List ℕ)
    → Lists t rs date book (findings (day_verdict t rs) date book) (found_count (day_verdict t rs))

-- "the lowest contract id that reached the number": on sound tables no contract of the family with a lower id did
abbrev pub LowestId : Type 0
LowestId = (log : List ℕ) (rs : List Record) (ladder place : ℕ) → log_fault log ≡ 0 →
    let t = tables_of log in
    let found = lowest_on t (times_on t rs) ladder in
    place < t.contracts → (t.contract place).id < (t.contract found).id → reaches_at t rs ladder place ≡ false

-- ---- the days of a run, on the book at its start
-- the book that the days stand on, and the days ended since, the latest first
pub record History : Type 0 where
  pub from : List ℕ
  pub days : List PastDay

-- what a step adds: a fresh book begins anew, and a day that ends is one more
unfoldable pub recorded : Paper → Course → Step → History → History
recorded p course (make_book rulebook) h =
    pick (eqb (fresh_fault (length p.book) rulebook) 0) (record { from = blank rulebook; days = [] }) h
recorded p (during log rs) (end_day row) h =
    pick (eqb (end_refusal log rs row p.book (length p.out)) 0)
    (record { from = h.from; days = ended_day log rs ∷ h.days }) h
recorded p idle (end_day row) h = h
recorded p course (open_day log) h = h
recorded p course (take_record row) h = h
recorded p course abandon_day h = h
recorded p course (ask_book group kind family) h = h
recorded p course (lend_findings out) h = h

unfoldable pub history : Paper → History → List Step → History
history p h [] = h
history p h (c ∷ cs) = history (rule p p.course c).after (recorded p p.course c h) cs

abbrev pub since : Desk → List Step → History
since w cs = history (begun w) (record { from = w.book; days = [] }) cs

-- the book as bytes is that of the days that were ended: nothing else goes into it
abbrev pub BookOfDays : Type 0
BookOfDays = (w : Desk) (cs : List Step) (gs : List Given) → SoundRun w cs gs
    → (left w gs).book ≡ book_over (shape_of (since w cs).from) (since w cs).from (all_written (since w cs).days)

-- each total is what was carried into the year, and that year's days, among those, that were an offence
abbrev pub TotalsCounted : Type 0
TotalsCounted = (w : Desk) (cs : List Step) (gs : List Given) → SoundRun w cs gs → (ladder : ℕ) →
    let book = (left w gs).book in
    ladder < ladders (kinds_of (rulebook_of book))
    → total_at book ladder ≡ total_over (since w cs).from (year (last_date book)) ladder (all_written (since w cs).days)

-- a fresh book is blank, and from a blank one nothing is carried: each total is the number of the year's offence days
abbrev pub FreshIsBlank : Type 0
FreshIsBlank = (book : List ℕ) (rulebook : ℕ) → fresh_fault (length book) rulebook ≡ 0
    → fresh_book book rulebook ≡ blank rulebook

abbrev pub BlankCarriesNothing : Type 0
BlankCarriesNothing = (rulebook y ladder : ℕ) → ladder < ladders (kinds_of rulebook)
    → carried (blank rulebook) y ladder ≡ 0

-- the sanctions in the findings are those of the totals
abbrev pub SanctionsFound : Type 0
SanctionsFound = (w : Desk) (cs : List Step) (gs : List Given) → SoundRun w cs gs
    → Sanctioned (shape_of (since w cs).from) (since w cs).from (all_written (since w cs).days)

-- what a day found on each ladder of the book `from`, after the days before it
abbrev pub found_all : List ℕ → PastDay → List PastDay → List ℕ
found_all from day before = found_over (shape_of from) from (written day) (all_written before)

-- an accepted end after any such run: one day more, and in the buffer, from its start, what it found on each ladder
pub record Found (w : Desk) (cs : List Step) (gs : List Given) (row : List ℕ) (g : Given) : Type 0 where
  pub day : PastDay
  pub one_more : (since w (cs ++ end_day row ∷ [])).days ≡ day ∷ (since w cs).days
  pub bytes : g.after.out ≡ put (left w gs).out 0 (found_all (since w cs).from day (since w cs).days)

abbrev pub FindingsFound : Type 0
FindingsFound = (w : Desk) (cs : List Step) (gs : List Given) → SoundRun w cs gs → (row : List ℕ) (g : Given)
    → Gives (left w gs) (end_day row) g → number_in g.reply ≡ 0 → Found w cs gs row g

-- ---- any list of day logs as bytes, as the clerk reads them: numbers, findings and the book's file are the rules'
abbrev pub LogsRuled : Type 0
LogsRuled = (book : List ℕ) (logs : List (List ℕ)) (js : List Judged) → JudgesAll book logs js
    → js ≡ ruled_logs book logs

-- and every list of logs comes to something
pub record Read (book : List ℕ) (logs : List (List ℕ)) : Type 0 where
  pub judged : List Judged
  pub all : JudgesAll book logs judged

abbrev pub AlwaysRead : Type 0
AlwaysRead = (book : List ℕ) (logs : List (List ℕ)) → Read book logs

-- the day of a log
abbrev pub logged_day : List ℕ → PastDay
logged_day log = ended_day (front log) (records_in [] (rows_of log))

-- from a sound book's file on, the file is the book of the days whose logs were accepted
unfoldable pub log_days : List ℕ → List PastDay → List (List ℕ) → List PastDay
log_days book days [] = days
log_days book days (log ∷ logs) =
    log_days (ruled_file book log) (pick (eqb (log_number book log) 0) (logged_day log ∷ days) days) logs

unfoldable pub last_file : List ℕ → List Judged → List ℕ
last_file book [] = book
last_file book (j ∷ js) = last_file j.book js

abbrev pub FileOfDays : Type 0
FileOfDays = (book : List ℕ) (logs : List (List ℕ)) (js : List Judged) → sound book ≡ true → JudgesAll book logs js
    → last_file book js ≡ book_over (shape_of book) book (all_written (log_days book [] logs))

-- the findings buffer that is printed for the next log, where it is accepted: what its day found on each ladder
abbrev pub LogsFound : Type 0
LogsFound = (book : List ℕ) (logs : List (List ℕ)) (js : List Judged) → sound book ≡ true → JudgesAll book logs js
    → (log : List ℕ) (w : Desk) → Judges (last_file book js) log 0 w
    → w.out ≡ put (replicate full_room 0) 0 (found_all book (logged_day log) (log_days book [] logs))
