use Rattle.demands.proofs.Demand1.{always_answered, one_answer, number_named, values_named, refusal_keeps}
use Rattle.demands.proofs.Demand2.{calls_ruled, cells_counted, never_changed, never_unsound, findings_listed}
use Rattle.demands.proofs.Demand2.{offences_counted, lowest_id, book_of_days, totals_counted, fresh_is_blank}
use Rattle.demands.proofs.Demand2.{blank_carries_nothing, sanctions_found, findings_found, logs_ruled}
use Rattle.demands.proofs.Demand2.{always_read, file_of_days, logs_found}
use Rattle.demands.proofs.RestrictLaws.{three_or_five_lem}
use Rattle.demands.proofs.Demand3.{nothing_lost, nothing_lost_in_logs}
use Rattle.demands.proofs.Example.{why_three_or_five}
use Rattle.demands.proofs.MarketMakers.{market_makers_lem}
use Rattle.demands.proofs.Starred.{starred_hold}
use Rattle.demands.proofs.Worked.{worked, refusals}
use Rattle.demands.proofs.WorkedYear.{worked_year}
use Rattle.demands.proofs.WhoeverSent.{whoever_sent, whoever_sent_logs}
use Rattle.demands.proofs.SentExample.{sent_example}
use Rattle.demands.proofs.Spared.{exempt_by_clause, counts_by_clauses}
use Rattle.demands.proofs.promised.Goals as goal

pub returns : goal.returns
returns c = record {
  always_answered = always_answered;
  one_answer = one_answer;
  number_named = number_named;
  values_named = values_named;
  refusal_keeps = refusal_keeps;
  calls_ruled = calls_ruled;
  cells_counted = cells_counted;
  never_changed = never_changed;
  never_unsound = never_unsound;
  offences_counted = offences_counted;
  findings_listed = findings_listed;
  lowest_id = lowest_id;
  book_of_days = book_of_days;
  totals_counted = totals_counted;
  fresh_is_blank = fresh_is_blank;
  blank_carries_nothing = blank_carries_nothing;
  sanctions_found = sanctions_found;
  findings_found = findings_found;
  logs_ruled = logs_ruled;
  always_read = always_read;
  file_of_days = file_of_days;
  logs_found = logs_found;
  whoever_sent = whoever_sent;
  whoever_sent_logs = whoever_sent_logs;
  exempt_by_clause = exempt_by_clause;
  counts_by_clauses = counts_by_clauses;
  three_or_five_lem = three_or_five_lem;
  nothing_lost = nothing_lost;
  nothing_lost_in_logs = nothing_lost_in_logs;
  why_three_or_five = why_three_or_five;
  starred_hold = starred_hold;
  market_makers_lem = market_makers_lem;
  worked = worked;
  refusals = refusals;
  sent_example = sent_example;
  worked_year = worked_year;
}
