-- 02, K2: "Findings don't depend on brokers." Two runs whose logs differ only in version and brokers have the same
-- findings, books and refusals, over lists of calls and over day logs; the length's 1 and the brokers' 11 aside, which
-- only one of the two may have. The statements; proofs/WhoeverSent has the theorems under the same names.
use Rattle.std.specs.Prelude.{◌≡◌, ◌⊎◌, Bool, true, not, List, [], ◌∷◌, map, ℕ, ◌≤◌, ◌<◌, eqb, length, get_or, take}
use Rattle.wire.specs.Choice.{pick}
use Rattle.wire.specs.Bytes.{le}
use Rattle.daylog.specs.declared.record.Record.{Record}
use Rattle.daylog.specs.Brokers.{brokers_wrong}
use Rattle.daylog.specs.Header.{header_of, is_version}
use Rattle.daylog.specs.Records.{record_length}
use Rattle.daylog.specs.Rows.{front, rows_of, is_end}
use Rattle.desk.specs.declared.state.State.TheVariants.{Closed}
use Rattle.demands.specs.Calls.{Step, make_book, open_day, take_record, end_day, abandon_day, ask_book, lend_findings}
use Rattle.demands.specs.Calls.{Reply, number_in, Desk, Given, Ran}
use Rattle.demands.specs.Paper.{Course, idle, during, Paper, rule}
use Rattle.demands.specs.Logs.{Judged, JudgesAll}
use Rattle.demands.specs.Demand1.{values_in}
use Rattle.demands.specs.Demand2.{begun}

-- ---- bytes that differ only in version and brokers
-- two headers with their tables: every byte but 4..5 is the same, and both name a version that is read, or neither
pub record SameTables (log log' : List ℕ) : Type 0 where
  pub long : length log ≡ length log'
  pub bytes : (i : ℕ) → (i < 4) ⊎ (6 ≤ i) → get_or log i 0 ≡ get_or log' i 0
  pub known : is_version (header_of log).version ≡ is_version (header_of log').version

-- bytes 20..23 of a row are as they are due: a record has its brokers, and an end record none
unfoldable pub well_sent : (version : ℕ) → List ℕ → Bool
well_sent version row = pick (is_end row) (eqb (le 4 row 20) 0) (not (brokers_wrong version row))

-- two rows of logs of two versions: the same in bytes 0..19, and each whole and well sent by its version; or each of
-- another length than its version's
pub data SameRow (version version' : ℕ) (row row' : List ℕ) : Type 0 where
  whole : length row ≡ record_length version → length row' ≡ record_length version' → take 20 row ≡ take 20 row'
      → well_sent version row ≡ true → well_sent version' row' ≡ true → SameRow version version' row row'
  cut : (length row ≡ record_length version → ⊥) → (length row' ≡ record_length version' → ⊥)
      → SameRow version version' row row'

-- ---- any two lists of steps
-- two steps, each with the day that is open: a row goes by its own day's version, and where no day is open by none
pub data SameStep : Course → Course → Step → Step → Type 0 where
  opens : {c c' : Course} {log log' : List ℕ} → SameTables log log' → SameStep c c' (open_day log) (open_day log')
  takes : {log log' : List ℕ} {rs rs' : List Record} {row row' : List ℕ}
      → SameRow (header_of log).version (header_of log').version row row'
      → SameStep (during log rs) (during log' rs') (take_record row) (take_record row')
  ends : {log log' : List ℕ} {rs rs' : List Record} {row row' : List ℕ}
      → SameRow (header_of log).version (header_of log').version row row'
      → SameStep (during log rs) (during log' rs') (end_day row) (end_day row')
  takes_none : {row row' : List ℕ} → SameStep idle idle (take_record row) (take_record row')
  ends_none : {row row' : List ℕ} → SameStep idle idle (end_day row) (end_day row')
  makes : {c c' : Course} {rulebook : ℕ} → SameStep c c' (make_book rulebook) (make_book rulebook)
  abandons : {c c' : Course} → SameStep c c' abandon_day abandon_day
  asks : {c c' : Course} {group kind family : ℕ}
      → SameStep c c' (ask_book group kind family) (ask_book group kind family)
  lends : {c c' : Course} {out : List ℕ} → SameStep c c' (lend_findings out) (lend_findings out)

pub data SameSteps : Paper → Paper → List Step → List Step → Type 0 where
  none : {p p' : Paper} → SameSteps p p' [] []
  more : {p p' : Paper} {c c' : Step} {cs cs' : List Step} → SameStep p.course p'.course c c'
      → SameSteps (rule p p.course c).after (rule p' p'.course c').after cs cs'
      → SameSteps p p' (c ∷ cs) (c' ∷ cs')

-- two runs, on desks with the same book, the same findings buffer and as many counts
pub record Resent (w w' : Desk) (cs cs' : List Step) (gs gs' : List Given) : Type 0 where
  pub closed : w.state ≡ Closed
  pub closed' : w'.state ≡ Closed
  pub book : w.book ≡ w'.book
  pub out : w.out ≡ w'.out
  pub counts : length w.counts ≡ length w'.counts
  pub steps : SameSteps (begun w) (begun w') cs cs'
  pub ran : Ran w cs gs
  pub ran' : Ran w' cs' gs'

-- what is told of a step: the refusal's number, the values of an accepted call, and book and findings as bytes. Left
-- out are the state, which holds the version, and the lent counts, of which specs/Lent speaks
pub record Told : Type 0 where
  pub number : ℕ
  pub values : List ℕ
  pub book : List ℕ
  pub out : List ℕ

abbrev pub told_by : Reply → (book out : List ℕ) → Told
told_by reply book out = record { number = number_in reply; values = values_in reply; book = book; out = out }

abbrev pub told : Given → Told
told g = told_by g.reply g.after.book g.after.out

abbrev pub WhoeverSent : Type 0
WhoeverSent = (w w' : Desk) (cs cs' : List Step) (gs gs' : List Given) → Resent w w' cs cs' gs gs'
    → map told gs ≡ map told gs'

-- ---- any two lists of day logs as bytes
pub data SameRows (version version' : ℕ) : List (List ℕ) → List (List ℕ) → Type 0 where
  none : SameRows version version' [] []
  more : {row row' : List ℕ} {rows rows' : List (List ℕ)} → SameRow version version' row row'
      → SameRows version version' rows rows' → SameRows version version' (row ∷ rows) (row' ∷ rows')

pub record SameLog (log log' : List ℕ) : Type 0 where
  pub tables : SameTables (front log) (front log')
  pub rows : SameRows (header_of (front log)).version (header_of (front log')).version (rows_of log) (rows_of log')

pub data SameLogs : List (List ℕ) → List (List ℕ) → Type 0 where
  none : SameLogs [] []
  more : {log log' : List ℕ} {logs logs' : List (List ℕ)} → SameLog log log' → SameLogs logs logs'
      → SameLogs (log ∷ logs) (log' ∷ logs')

-- numbers, printed findings and the book's files are the same
abbrev pub WhoeverSentLogs : Type 0
WhoeverSentLogs = (book : List ℕ) (logs logs' : List (List ℕ)) (js js' : List Judged) → SameLogs logs logs'
    → JudgesAll book logs js → JudgesAll book logs' js' → js ≡ js'
