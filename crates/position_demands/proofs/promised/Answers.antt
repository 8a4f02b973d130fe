use Rattle.position_demands.proofs.OffenceLaws.{offences_counted, lowest_id}
use Rattle.position_demands.proofs.Demand1.{always_answered, one_answer, number_named, refusal_keeps}
use Rattle.position_demands.proofs.Demand2.{findings_listed, stays_sound, never_unsound, book_of_days}
use Rattle.position_demands.proofs.Demand2.{totals_counted, blank_carries_nothing, sanctions_found}
use Rattle.position_demands.proofs.Demand2.{findings_found, file_of_days, logs_found}
use Rattle.position_demands.proofs.Demand3.{each_day_joined, nothing_lost, nothing_lost_in_logs}
use Rattle.position_demands.proofs.Lines.{lines_hold}
use Rattle.position_demands.proofs.promised.Goals as goal

pub returns : goal.returns
returns c = record {
  always_answered = always_answered;
  one_answer = one_answer;
  number_named = number_named;
  refusal_keeps = refusal_keeps;
  offences_counted = offences_counted;
  findings_listed = findings_listed;
  lowest_id = lowest_id;
  stays_sound = stays_sound;
  never_unsound = never_unsound;
  book_of_days = book_of_days;
  totals_counted = totals_counted;
  blank_carries_nothing = blank_carries_nothing;
  sanctions_found = sanctions_found;
  findings_found = findings_found;
  file_of_days = file_of_days;
  logs_found = logs_found;
  each_day_joined = each_day_joined;
  nothing_lost = nothing_lost;
  nothing_lost_in_logs = nothing_lost_in_logs;
  lines_hold = lines_hold;
}
