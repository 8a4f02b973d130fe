-- Every statement of the three demands for `positions`, as one record: a function of src/lib.rt has it for its
-- contract, so that a theorem that goes fails the gate.
use Rattle.position_demands.specs.Demand1.{AlwaysAnswered, OneAnswer, NumberNamed, RefusalKeeps}
use Rattle.position_demands.specs.Demand2.{OffencesCounted, FindingsListed, LowestId, StaysSound, NeverUnsound}
use Rattle.position_demands.specs.Demand2.{BookOfDays, TotalsCounted, BlankCarriesNothing, SanctionsFound}
use Rattle.position_demands.specs.Demand2.{FindingsFound, FileOfDays, LogsFound}
use Rattle.position_demands.specs.Demand3.{EachDayJoined, NothingLost, NothingLostInLogs}
use Rattle.position_demands.specs.Lines.{Lines}

pub record Promised : Type 0 where
  -- demand 1
  pub always_answered : AlwaysAnswered
  pub one_answer : OneAnswer
  pub number_named : NumberNamed
  pub refusal_keeps : RefusalKeeps
  -- demand 2, over lists of calls
  pub offences_counted : OffencesCounted
  pub findings_listed : FindingsListed
  pub lowest_id : LowestId
  pub stays_sound : StaysSound
  pub never_unsound : NeverUnsound
  pub book_of_days : BookOfDays
  pub totals_counted : TotalsCounted
  pub blank_carries_nothing : BlankCarriesNothing
  pub sanctions_found : SanctionsFound
  pub findings_found : FindingsFound
  -- and over position logs
  pub file_of_days : FileOfDays
  pub logs_found : LogsFound
  -- demand 3, of each day, over lists of calls and over position logs
  pub each_day_joined : EachDayJoined
  pub nothing_lost : NothingLost
  pub nothing_lost_in_logs : NothingLostInLogs
  -- either side of each line
  pub lines_hold : Lines
