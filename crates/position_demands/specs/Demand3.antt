-- Demand 3 for `positions`: join two groups in every table of an accepted year, and each log is accepted again, sums
-- add, and no offence and no opening restriction is lost. The statements, for lists of calls and for position logs;
-- proofs/Demand3 has the theorems under the same names.
use Rattle.std.specs.Prelude.{◌≡◌, ◌⊎◌, Bool, true, ◌&&◌, List, [], ◌∷◌, map, ℕ, ◌+◌, ◌≤◌, leb, length}
use Rattle.rules.specs.declared.measure.Lots.{Lots}
use Rattle.rules.specs.Codes.{is_rulebook}
use Rattle.tables.specs.Accounts.{group_size}
use Rattle.years.specs.Days.{blank_as}
use Rattle.years.specs.Joined.{Two, Other, YearJoined}
use Rattle.positions.specs.declared.records.Position.{Position}
use Rattle.positions.specs.Books.{position_shape}
use Rattle.positions.specs.Log.{Positions, positions_of, log_fault}
use Rattle.positions.specs.Offences.{held_of, offence}
use Rattle.position_demands.specs.Calls.{Step, make_book, judge_log, ask_book, lend_findings, number_in, Lent, Given}
use Rattle.position_demands.specs.Calls.{numbers, Ran, left}
use Rattle.position_demands.specs.Demand2.{days_of, since, full_room, Judged, JudgesAll, last_file, accepted}
use Rattle.position_demands.specs.Demand2.{log_day}
use Rattle.position_demands.specs.Join.{join_log, Joined}

-- ---- of a day
-- what is held adds, on either side and on every contract; so do the numbers of accounts
pub record Added (a b : ℕ) (p p' : Positions) : Type 0 where
  pub sums : (side : Position → Lots) (place : ℕ)
      → held_of side p' b place ≡ held_of side p a place + held_of side p b place
  pub none_left : (side : Position → Lots) (place : ℕ) → held_of side p' a place ≡ 0
  pub others : (side : Position → Lots) (group place : ℕ) → Other a b group
      → held_of side p' group place ≡ held_of side p group place
  -- so two groups of one account each are a group of two, which may offend where neither did: what is promised is that
  -- no offence that was there is lost, not that none is new
  pub sizes : group_size p'.account p'.accounts b
      ≡ group_size p.account p.accounts a + group_size p.account p.accounts b

pub record DayJoined (a b : ℕ) (log : List ℕ) : Type 0 where
  -- the joined log has the fault that the log has, or again none
  pub again : log_fault (join_log a b log) ≡ log_fault log
  -- and where there is none: the tables, the sums, and "Every day that was an offence of a or of b .. is one of the
  -- joined group on the same ladder."
  pub positions : log_fault log ≡ 0 → Joined a b (positions_of log) (positions_of (join_log a b log))
  pub added : log_fault log ≡ 0 → Added a b (positions_of log) (positions_of (join_log a b log))
  pub stays : log_fault log ≡ 0 → (family : ℕ)
      → (offence (positions_of log) a family ≡ true) ⊎ (offence (positions_of log) b family ≡ true)
      → offence (positions_of (join_log a b log)) b family ≡ true

abbrev pub EachDayJoined : Type 0
EachDayJoined = (a b : ℕ) → Two a b → (log : List ℕ) → DayJoined a b log

-- ---- lists of steps, and the same with the groups joined in every log; findings buffers may be others
pub data StepJoined (a b : ℕ) : Step → Step → Type 0 where
  makes : {rulebook : ℕ} → StepJoined a b (make_book rulebook) (make_book rulebook)
  judges : {log : List ℕ} → StepJoined a b (judge_log log) (judge_log (join_log a b log))
  asks : {group kind family : ℕ} → StepJoined a b (ask_book group kind family) (ask_book group kind family)
  lends : {out out' : List ℕ} → StepJoined a b (lend_findings out) (lend_findings out')

pub data StepsJoined (a b : ℕ) : List Step → List Step → Type 0 where
  none : StepsJoined a b [] []
  more : {c c' : Step} {cs cs' : List Step} → StepJoined a b c c' → StepsJoined a b cs cs'
      → StepsJoined a b (c ∷ cs) (c' ∷ cs')

-- a findings buffer that is lent has full room, whatever its bytes; a call lends none
unfoldable pub roomy : Step → Bool
roomy (lend_findings out) = leb full_room (length out)
roomy (make_book rulebook) = true
roomy (judge_log log) = true
roomy (ask_book group kind family) = true

unfoldable pub all_roomy : List Step → Bool
all_roomy [] = true
all_roomy (c ∷ cs) = roomy c && all_roomy cs

-- every call was accepted
pub data Accepted : List Given → Type 0 where
  none : Accepted []
  more : {g : Given} {gs : List Given} → number_in g.reply ≡ 0 → Accepted gs → Accepted (g ∷ gs)

-- the joined run has full room for findings. Of the run itself: either every call was accepted, with buffers of any
-- length; or they have full room too, and any calls may have been refused
pub data Fair (w : Lent) (cs : List Step) (gs : List Given) : Type 0 where
  all_accepted : Accepted gs → Fair w cs gs
  full_size : full_room ≤ length w.out → all_roomy cs ≡ true → Fair w cs gs

pub record Run (a b rulebook : ℕ) (w w' : Lent) (cs cs' : List Step) (gs gs' : List Given) : Type 0 where
  pub two : Two a b
  pub known : is_rulebook rulebook ≡ true
  pub fresh : w.book ≡ blank_as position_shape rulebook
  pub fresh' : w'.book ≡ blank_as position_shape rulebook
  pub ran : Ran w cs gs
  pub ran' : Ran w' cs' gs'
  pub steps : StepsJoined a b cs cs'
  pub out : full_room ≤ length w'.out
  pub lent : all_roomy cs' ≡ true
  pub fair : Fair w cs gs

-- each call, refused ones too, gets the number that it had; each accepted log is there joined; nothing is lost
pub record RunJoined (a b : ℕ) (w w' : Lent) (cs cs' : List Step) (gs gs' : List Given) : Type 0 where
  pub same_numbers : numbers gs' ≡ numbers gs
  pub same_book : (since w' cs' gs').from ≡ (since w cs gs).from
  pub each : (since w' cs' gs').logs ≡ map (join_log a b) (since w cs gs).logs
  pub year : YearJoined position_shape a b (since w cs gs).from (left w gs).book (left w' gs').book
      (days_of (since w cs gs)) (days_of (since w' cs' gs'))

abbrev pub NothingLost : Type 0
NothingLost = (a b rulebook : ℕ) (w w' : Lent) (cs cs' : List Step) (gs gs' : List Given)
    → Run a b rulebook w w' cs cs' gs gs' → RunJoined a b w w' cs cs' gs gs'

-- ---- position logs as the clerk's program reads them, from a fresh book's file, and the same with the groups joined
pub record LogsJoined (a b rulebook : ℕ) (logs : List (List ℕ)) (js js' : List Judged) : Type 0 where
  pub same_numbers : map (λ j. j.number) js' ≡ map (λ j. j.number) js
  pub each : accepted [] (map (join_log a b) logs) js' ≡ map (join_log a b) (accepted [] logs js)
  pub year : (let from = blank_as position_shape rulebook in
      YearJoined position_shape a b from (last_file from js) (last_file from js')
      (map log_day (accepted [] logs js)) (map log_day (accepted [] (map (join_log a b) logs) js')))

abbrev pub NothingLostInLogs : Type 0
NothingLostInLogs = (a b rulebook : ℕ) (logs : List (List ℕ)) (js js' : List Judged)
    → Two a b → is_rulebook rulebook ≡ true
    → JudgesAll (blank_as position_shape rulebook) logs js
    → JudgesAll (blank_as position_shape rulebook) (map (join_log a b) logs) js'
    → LogsJoined a b rulebook logs js js'
