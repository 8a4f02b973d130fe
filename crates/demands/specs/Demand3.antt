-- Demand 3: "Join two groups in every table of an accepted year, and each day is accepted again, counts add
-- (self-trades plus the trades between the two), and no offence and no opening restriction is lost." The statements,
-- for lists of calls and for day logs; proofs/Demand3 has the theorems under the same names.
use Rattle.std.specs.Prelude.{◌≡◌, ◌⊎◌, Bool, true, ◌&&◌, ◌||◌, List, [], ◌∷◌, map, ℕ, ◌+◌, ◌≤◌, ◌<◌, leb, eqb, length}
use Rattle.rules.specs.declared.kinds.Kinds.{Kinds}
use Rattle.rules.specs.Codes.{is_rulebook}
use Rattle.places.specs.Places.{HasCell}
use Rattle.book.specs.Shape.{day_shape, shape_of}
use Rattle.daylog.specs.Header.{tables_of}
use Rattle.years.specs.Restrictions.{sanctions, restrictions}
use Rattle.years.specs.Joined.{Two, Other, YearJoined}
use Rattle.desk.specs.declared.state.State.TheVariants.{Closed}
use Rattle.desk.specs.Offences.{kinds_on}
use Rattle.demands.specs.Days.{PastDay, times_in, offence_in, all_written, blank}
use Rattle.demands.specs.Calls.{Step, make_book, open_day, take_record, end_day, abandon_day, ask_book, lend_findings}
use Rattle.demands.specs.Calls.{number_in, Desk, Given, numbers, Ran, left, full_room}
use Rattle.demands.specs.Paper.{Course, idle, during}
use Rattle.demands.specs.Logs.{clerk_counts, Judged, JudgesAll}
use Rattle.demands.specs.Lent.{cell_in, last_opened}
use Rattle.demands.specs.Demand2.{begun, since, log_days, last_file}
use Rattle.demands.specs.Join.{join_log, Joined, between}

-- ---- what a join leaves of the counts: they add, on every contract
-- `n` and `n'` count for a group, a kind and a contract's place, before and after; `across` trades between the two
pub record Added (kinds : Kinds) (a b : ℕ) (n n' : (group kind place : ℕ) → ℕ) (across : ℕ → ℕ) : Type 0 where
  pub selfs : (place : ℕ) → place < 32 → n' b 1 place ≡ n a 1 place + n b 1 place + across place
  pub frequent : (place : ℕ) → place < 32 → n' b 2 place ≡ n a 2 place + n b 2 place
  pub over : (place : ℕ) → place < 32 → n' b 3 place ≡ n a 3 place + n b 3 place
  pub none_left : (kind place : ℕ) → HasCell kinds a kind place → n' a kind place ≡ 0
  pub others : (group kind place : ℕ) → HasCell kinds group kind place → Other a b group
      → n' group kind place ≡ n group kind place

-- ---- of a day, and of the same day joined: what it finds, and totals and restrictions, are in `YearJoined`
pub record DayJoined (a b : ℕ) (d d' : PastDay) : Type 0 where
  pub date : d'.date ≡ d.date
  pub records : d'.records ≡ d.records
  pub tables : Joined a b d.tables d'.tables
  pub added : Added (kinds_on d.tables) a b (times_in d) (times_in d') (between d.tables d.records a b)
  -- "Every day that was an offence of a or of b, of a kind in a family,
  -- is one of the joined group on the same ladder."
  pub stays : (kind family : ℕ) → (offence_in d a kind family ≡ true) ⊎ (offence_in d b kind family ≡ true)
      → offence_in d' b kind family ≡ true

pub data DaysJoined (a b : ℕ) : List PastDay → List PastDay → Type 0 where
  none : DaysJoined a b [] []
  more : {d d' : PastDay} {days days' : List PastDay} → DayJoined a b d d' → DaysJoined a b days days'
      → DaysJoined a b (d ∷ days) (d' ∷ days')

-- "its number of opening restrictions (findings with sanction 3 or 5)": of the desk's days there are no others
abbrev pub ThreeOrFive : Type 0
ThreeOrFive = (from : List ℕ) (y ladder : ℕ) (days : List PastDay)
    → restrictions from y ladder (all_written days)
    ≡ sanctions (λ s. eqb s 3 || eqb s 5) from y ladder (all_written days)

-- ---- any list of steps from a fresh book, and the same with the two groups joined in every table
-- a findings buffer that is lent between may be another
pub data StepJoined (a b : ℕ) : Step → Step → Type 0 where
  makes : {rulebook : ℕ} → StepJoined a b (make_book rulebook) (make_book rulebook)
  opens : {log : List ℕ} → StepJoined a b (open_day log) (open_day (join_log a b log))
  takes : {row : List ℕ} → StepJoined a b (take_record row) (take_record row)
  ends : {row : List ℕ} → StepJoined a b (end_day row) (end_day row)
  abandons : StepJoined a b abandon_day abandon_day
  asks : {group kind family : ℕ} → StepJoined a b (ask_book group kind family) (ask_book group kind family)
  lends : {out out' : List ℕ} → StepJoined a b (lend_findings out) (lend_findings out')

pub data StepsJoined (a b : ℕ) : List Step → List Step → Type 0 where
  none : StepsJoined a b [] []
  more : {c c' : Step} {cs cs' : List Step} → StepJoined a b c c' → StepsJoined a b cs cs'
      → StepsJoined a b (c ∷ cs) (c' ∷ cs')

-- a findings buffer that is lent has full room, whatever its bytes; a call lends none
unfoldable pub roomy : Step → Bool
roomy (lend_findings out) = leb full_room (length out)
roomy (make_book rulebook) = true
roomy (open_day log) = true
roomy (take_record row) = true
roomy (end_day row) = true
roomy abandon_day = true
roomy (ask_book group kind family) = true

unfoldable pub all_roomy : List Step → Bool
all_roomy [] = true
all_roomy (c ∷ cs) = roomy c && all_roomy cs

-- every call was accepted
pub data Accepted : List Given → Type 0 where
  none : Accepted []
  more : {g : Given} {gs : List Given} → number_in g.reply ≡ 0 → Accepted gs → Accepted (g ∷ gs)

-- the joined run has full room for findings. Of the run itself: either every call was accepted, and its buffers are of
-- any length; or they have full room too and the counts are of one length, and any calls may have been refused
pub data Fair (w w' : Desk) (cs : List Step) (gs : List Given) : Type 0 where
  accepted : Accepted gs → clerk_counts ≤ length w'.counts → Fair w w' cs gs
  full_size : full_room ≤ length w.out → all_roomy cs ≡ true → length w'.counts ≡ length w.counts
      → Fair w w' cs gs

-- a run from a fresh book, with no day open
pub record FreshRun (rulebook : ℕ) (w : Desk) (cs : List Step) (gs : List Given) : Type 0 where
  pub known : is_rulebook rulebook ≡ true
  pub closed : w.state ≡ Closed
  pub fresh : w.book ≡ blank rulebook
  pub ran : Ran w cs gs

pub record Run (a b rulebook : ℕ) (w w' : Desk) (cs cs' : List Step) (gs gs' : List Given) : Type 0 where
  pub two : Two a b
  pub run : FreshRun rulebook w cs gs
  pub joined : FreshRun rulebook w' cs' gs'
  pub steps : StepsJoined a b cs cs'
  pub out : full_room ≤ length w'.out
  pub lent : all_roomy cs' ≡ true
  pub fair : Fair w w' cs gs

-- the lent counts of the two runs, on the day last opened: its cells add
abbrev pub CellsAdded : (a b : ℕ) → Course → (c c' : List ℕ) → Type 0
CellsAdded a b idle c c' = Unit {0}
CellsAdded a b (during log rs) c c' =
    let kinds = kinds_on (tables_of log) in
    Added kinds a b (cell_in kinds c) (cell_in kinds c') (between (tables_of log) rs a b)

-- each call, refused ones too, gets the number that it had: an accepted one is accepted again
abbrev pub SameNumbers : (gs gs' : List Given) → Type 0
SameNumbers gs gs' = numbers gs' ≡ numbers gs

-- the theorem over lists of steps
pub record RunJoined (a b : ℕ) (w w' : Desk) (cs cs' : List Step) (gs gs' : List Given) : Type 0 where
  pub same_numbers : SameNumbers gs gs'
  pub cells_add : CellsAdded a b (last_opened (begun w) idle cs) (left w gs).counts (left w' gs').counts
  pub same_book : (since w' cs').from ≡ (since w cs).from
  -- each day's counts and offences
  pub each : DaysJoined a b (since w cs).days (since w' cs').days
  -- and its findings, with the totals and the restrictions of the days
  pub year : YearJoined (shape_of (since w cs).from) a b (since w cs).from
      (left w gs).book (left w' gs').book
      (all_written (since w cs).days) (all_written (since w' cs').days)

abbrev pub NothingLost : Type 0
NothingLost = (a b rulebook : ℕ) (w w' : Desk) (cs cs' : List Step) (gs gs' : List Given)
    → Run a b rulebook w w' cs cs' gs gs' → RunJoined a b w w' cs cs' gs gs'

-- ---- day logs as the clerk reads them, from a fresh book's file, and the same with the groups joined in their tables
pub record LogsJoined (a b rulebook : ℕ) (logs : List (List ℕ)) (js js' : List Judged) : Type 0 where
  -- each log gets the number that it had: an accepted one is accepted again
  pub same_numbers : map (λ j. j.number) js' ≡ map (λ j. j.number) js
  -- each day's counts and offences
  pub each : DaysJoined a b (log_days (blank rulebook) [] logs)
      (log_days (blank rulebook) [] (map (join_log a b) logs))
  -- and its findings, with the totals and the restrictions of the days
  pub year : YearJoined (day_shape rulebook) a b (blank rulebook)
      (last_file (blank rulebook) js) (last_file (blank rulebook) js')
      (all_written (log_days (blank rulebook) [] logs))
      (all_written (log_days (blank rulebook) [] (map (join_log a b) logs)))

abbrev pub NothingLostInLogs : Type 0
NothingLostInLogs = (a b rulebook : ℕ) (logs : List (List ℕ)) (js js' : List Judged)
    → Two a b → is_rulebook rulebook ≡ true
    → JudgesAll (blank rulebook) logs js → JudgesAll (blank rulebook) (map (join_log a b) logs) js'
    → LogsJoined a b rulebook logs js js'
