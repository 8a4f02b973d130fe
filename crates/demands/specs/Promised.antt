-- Every statement of demands 1 to 3, the two tables and the examples, as one record: a function of src/lib.rt has it
-- for its contract, so that a theorem that goes fails the gate.
use Rattle.demands.specs.Demand1.{AlwaysAnswered, OneAnswer, NumberNamed, ValuesNamed, RefusalKeeps}
use Rattle.demands.specs.Demand2.{CallsRuled, CellsCounted, NeverChanged, NeverUnsound, OffencesCounted}
use Rattle.demands.specs.Demand2.{FindingsListed, LowestId, BookOfDays, TotalsCounted, FreshIsBlank}
use Rattle.demands.specs.Demand2.{BlankCarriesNothing, SanctionsFound, FindingsFound, LogsRuled, AlwaysRead}
use Rattle.demands.specs.Demand2.{FileOfDays, LogsFound}
use Rattle.demands.specs.Demand3.{ThreeOrFive, NothingLost, NothingLostInLogs}
use Rattle.demands.specs.Example.{WhyThreeOrFive}
use Rattle.demands.specs.MarketMakers.{MarketMakers}
use Rattle.demands.specs.Starred.{Starred}
use Rattle.demands.specs.Worked.{Worked, Refusals}
use Rattle.demands.specs.WorkedYear.{WorkedYear}
use Rattle.demands.specs.WhoeverSent.{WhoeverSent, WhoeverSentLogs}
use Rattle.demands.specs.SentExample.{SentExample}
use Rattle.demands.specs.Spared.{ExemptByClause, CountsByClauses}

pub record Promised : Type 0 where
  -- demand 1
  pub always_answered : AlwaysAnswered
  pub one_answer : OneAnswer
  pub number_named : NumberNamed
  pub values_named : ValuesNamed
  pub refusal_keeps : RefusalKeeps
  -- demand 2, over lists of calls
  pub calls_ruled : CallsRuled
  pub cells_counted : CellsCounted
  pub never_changed : NeverChanged
  pub never_unsound : NeverUnsound
  pub offences_counted : OffencesCounted
  pub findings_listed : FindingsListed
  pub lowest_id : LowestId
  pub book_of_days : BookOfDays
  pub totals_counted : TotalsCounted
  pub fresh_is_blank : FreshIsBlank
  pub blank_carries_nothing : BlankCarriesNothing
  pub sanctions_found : SanctionsFound
  pub findings_found : FindingsFound
  -- and over day logs
  pub logs_ruled : LogsRuled
  pub always_read : AlwaysRead
  pub file_of_days : FileOfDays
  pub logs_found : LogsFound
  -- request K2: the same, whoever sent it
  pub whoever_sent : WhoeverSent
  pub whoever_sent_logs : WhoeverSentLogs
  -- request K5: why a record was spared
  pub exempt_by_clause : ExemptByClause
  pub counts_by_clauses : CountsByClauses
  -- demand 3, over lists of calls and over day logs
  pub three_or_five_lem : ThreeOrFive
  pub nothing_lost : NothingLost
  pub nothing_lost_in_logs : NothingLostInLogs
  pub why_three_or_five : WhyThreeOrFive
  -- the starred table, the market makers', document 01's example, refusals between, the example in version 2, and a
  -- small joined year
  pub starred_hold : Starred
  pub market_makers_lem : MarketMakers
  pub worked : Worked
  pub refusals : Refusals
  pub sent_example : SentExample
  pub worked_year : WorkedYear
