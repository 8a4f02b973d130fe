use Rattle.years.proofs.TotalLaws.{kept, totals_counted, findings_found, blank_carries}
use Rattle.years.proofs.RestrictLaws.{third_rung, limit_rungs, by_rungs}
use Rattle.years.proofs.ListedLaws.{findings_listed}
use Rattle.years.proofs.JoinLaws.{nothing_lost}
use Rattle.years.proofs.kept.Goals as goal

pub returns : goal.returns
returns c = record {
  stays_sound = λ shape from book days w. (kept w).good;
  book_of_days = λ shape from book days w. (kept w).is;
  totals_counted = totals_counted;
  blank_carries_nothing = blank_carries;
  findings_found = findings_found;
  sanctions_found = λ shape from book days w. (kept w).sanctions;
  third_rung = third_rung;
  limit_rungs = limit_rungs;
  restrictions_counted =
      λ shape from book days hard w by y l nothing. by_rungs shape _ hard by from y l nothing days
      (kept w).ours;
  findings_listed = findings_listed;
  nothing_lost = nothing_lost;
}
