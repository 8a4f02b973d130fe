-- Demand 2 for `positions`: over any list of calls, and over position logs, findings, totals and sanctions are those
-- of the exchanges' texts; a finding is listed exactly when, on some contract, what the group's records sum to is over
-- the limit. The statements; proofs/Demand2 has the theorems under the same names.
use Rattle.std.specs.Prelude.{◌≡◌, true, false, List, [], ◌∷◌, map, ℕ, ◌*◌, ◌<◌, eqb, length, replicate}
use Rattle.wire.specs.Choice.{pick}
use Rattle.wire.specs.Buffers.{put}
use Rattle.calendar.specs.Dates.{year}
use Rattle.rules.specs.declared.kinds.Kinds.TheVariants.{One}
use Rattle.places.specs.Places.{ladders, group_at, family_at}
use Rattle.book.specs.Layout.{last_date, total_at}
use Rattle.book.specs.Sound.{sound_as}
use Rattle.daylog.specs.Header.{header_of}
use Rattle.verdict.specs.Verdict.{offends, found_count, findings}
use Rattle.years.specs.Days.{WrittenDay, carried, total_over, book_over, found_over, blank_as}
use Rattle.years.specs.Restrictions.{Sanctioned}
use Rattle.years.specs.Listed.{Lists}
use Rattle.positions.specs.Books.{position_shape, fresh_fault}
use Rattle.positions.specs.Log.{Positions, positions_of, log_fault}
use Rattle.positions.specs.Offences.{over_on, offence, lowest_on, verdict_on}
use Rattle.positions.specs.Judge.{log_verdict, judge_fault}
use Rattle.position_demands.specs.Calls.{Step, make_book, judge_log, ask_book, lend_findings, number_in, Lent, lent_of}
use Rattle.position_demands.specs.Calls.{Given, Gives, Ran, left}

-- ---- a day's findings: `offence` is over the log's records, with no running totals
abbrev pub OffencesCounted : Type 0
OffencesCounted = (p : Positions) (ladder : ℕ)
    → offends (verdict_on p) ladder ≡ offence p (group_at One ladder) (family_at ladder)

-- listed exactly when, once, in order, with total and sanction
abbrev pub FindingsListed : Type 0
FindingsListed = (p : Positions) (date : ℕ) (book : List ℕ)
    → Lists (verdict_on p) date book (findings (verdict_on p) date book) (found_count (verdict_on p))

-- with the lowest contract that offends: in a log without fault no contract of the family with a lower id does
abbrev pub LowestId : Type 0
LowestId = (log : List ℕ) (ladder place : ℕ) → log_fault log ≡ 0 →
    let p = positions_of log in
    offends (verdict_on p) ladder ≡ true → place < p.contracts
    → (p.contract place).id < (p.contract (lowest_on p ladder)).id
    → over_on p (group_at One ladder) (family_at ladder) place ≡ false

-- ---- the days of a run, on the book at its start
-- the day of a log
abbrev pub log_day : List ℕ → WrittenDay
log_day log = record { date = (header_of log).date; verdict = log_verdict log }

-- the book that the days stand on, and the logs accepted since, the latest first
pub record History : Type 0 where
  pub from : List ℕ
  pub logs : List (List ℕ)

abbrev pub days_of : History → List WrittenDay
days_of h = map log_day h.logs

-- what a step adds: a fresh book begins anew, and a log that is accepted is one day more
unfoldable pub recorded : Lent → Step → History → History
recorded w (make_book rulebook) h =
    pick (eqb (fresh_fault (length w.book) rulebook) 0)
    (record { from = blank_as position_shape rulebook; logs = [] }) h
recorded w (judge_log log) h =
    pick (eqb (judge_fault log w.book (length w.out)) 0) (record { from = h.from; logs = log ∷ h.logs }) h
recorded w (ask_book group kind family) h = h
recorded w (lend_findings out) h = h

-- a list of steps, with what each left
unfoldable pub history : Lent → History → List Step → List Given → History
history w h [] gs = h
history w h (c ∷ cs) [] = h
history w h (c ∷ cs) (g ∷ gs) = history g.after (recorded w c h) cs gs

abbrev pub since : Lent → List Step → List Given → History
since w cs gs = history w (record { from = w.book; logs = [] }) cs gs

-- a run from a sound book, fresh or not
pub record SoundRun (w : Lent) (cs : List Step) (gs : List Given) : Type 0 where
  pub good : sound_as position_shape w.book ≡ true
  pub ran : Ran w cs gs

-- a sound book stays sound, and 17 never comes of our own doing
pub data None (number : ℕ) : List Given → Type 0 where
  none : None number []
  more : {g : Given} {gs : List Given} → (number_in g.reply ≡ number → ⊥) → None number gs → None number (g ∷ gs)

abbrev pub StaysSound : Type 0
StaysSound = (w : Lent) (cs : List Step) (gs : List Given) → SoundRun w cs gs
    → sound_as position_shape (left w gs).book ≡ true

abbrev pub NeverUnsound : Type 0
NeverUnsound = (w : Lent) (cs : List Step) (gs : List Given) → SoundRun w cs gs → None 17 gs

-- the book as bytes is that of the days: nothing else goes into it
abbrev pub BookOfDays : Type 0
BookOfDays = (w : Lent) (cs : List Step) (gs : List Given) → SoundRun w cs gs
    → (left w gs).book ≡ book_over position_shape (since w cs gs).from (days_of (since w cs gs))

-- each total is what was carried into the year, and that year's days, among those, that were an offence
abbrev pub TotalsCounted : Type 0
TotalsCounted = (w : Lent) (cs : List Step) (gs : List Given) → SoundRun w cs gs → (ladder : ℕ)
    → ladder < ladders One →
    let book = (left w gs).book in
    total_at book ladder ≡ total_over (since w cs gs).from (year (last_date book)) ladder (days_of (since w cs gs))

-- from a fresh book nothing is carried: each total is the number of the year's offence days
abbrev pub BlankCarriesNothing : Type 0
BlankCarriesNothing = (rulebook y ladder : ℕ) → ladder < ladders One
    → carried (blank_as position_shape rulebook) y ladder ≡ 0

-- the sanctions in the findings are those of the totals
abbrev pub SanctionsFound : Type 0
SanctionsFound = (w : Lent) (cs : List Step) (gs : List Given) → SoundRun w cs gs
    → Sanctioned position_shape (since w cs gs).from (days_of (since w cs gs))

-- a log accepted after any such run: in the buffer, from its start, what its day found on each ladder
abbrev pub FindingsFound : Type 0
FindingsFound = (w : Lent) (cs : List Step) (gs : List Given) → SoundRun w cs gs → (log : List ℕ) (g : Given)
    → Gives (left w gs) (judge_log log) g → number_in g.reply ≡ 0
    → g.after.out
    ≡ put (left w gs).out 0 (found_over position_shape (since w cs gs).from (log_day log) (days_of (since w cs gs)))

-- ---- any list of position logs as bytes, as the clerk's program reads them: a call each, on the file that the one
-- before left, with room for all findings
abbrev pub full_room : ℕ
full_room = 8 * ladders One

pub record Judged : Type 0 where
  pub number : ℕ
  pub printed : List ℕ
  pub book : List ℕ

-- what is printed where the log is accepted; the file is the book that the call left
abbrev pub judged_of : Given → Judged
judged_of g = record {
  number = number_in g.reply;
  printed = pick (eqb (number_in g.reply) 0) g.after.out [];
  book = g.after.book;
}

abbrev pub clerk_lent : List ℕ → Lent
clerk_lent book = lent_of book (replicate full_room 0)

pub data JudgesAll : List ℕ → List (List ℕ) → List Judged → Type 0 where
  none : {book : List ℕ} → JudgesAll book [] []
  next : {book log : List ℕ} {logs : List (List ℕ)} {g : Given} {js : List Judged}
      → Gives (clerk_lent book) (judge_log log) g → JudgesAll g.after.book logs js
      → JudgesAll book (log ∷ logs) (judged_of g ∷ js)

-- the file after them
unfoldable pub last_file : List ℕ → List Judged → List ℕ
last_file book [] = book
last_file book (j ∷ js) = last_file j.book js

-- the logs that were accepted, the latest first
unfoldable pub accepted : List (List ℕ) → List (List ℕ) → List Judged → List (List ℕ)
accepted before [] js = before
accepted before (log ∷ logs) [] = before
accepted before (log ∷ logs) (j ∷ js) = accepted (pick (eqb j.number 0) (log ∷ before) before) logs js

-- from a sound book's file on, the file is the book of the days whose logs were accepted
abbrev pub FileOfDays : Type 0
FileOfDays = (book : List ℕ) (logs : List (List ℕ)) (js : List Judged) → sound_as position_shape book ≡ true
    → JudgesAll book logs js
    → last_file book js ≡ book_over position_shape book (map log_day (accepted [] logs js))

-- and what is printed for the next log, where it is accepted, is what its day found on each ladder
abbrev pub LogsFound : Type 0
LogsFound = (book : List ℕ) (logs : List (List ℕ)) (js : List Judged) → sound_as position_shape book ≡ true
    → JudgesAll book logs js → (log : List ℕ) (g : Given) → Gives (clerk_lent (last_file book js)) (judge_log log) g
    → number_in g.reply ≡ 0
    → g.after.out
    ≡ put (replicate full_room 0) 0 (found_over position_shape book (log_day log) (map log_day (accepted [] logs js)))
