-- 02, K5: the theorems to specs/Spared. Assumes nothing.
use mathlib.Core.Path.{sym, ◌∙◌}
use mathlib.Core.Bool.{or-false}
use Rattle.exemptions.proofs.ClauseLaws.{exempt_clause}
use Rattle.tables.specs.Tables.{contract_of, group_of}
use Rattle.counts.specs.Counting.{plan_for, plan_of, reasons_of, counts_as}
use Rattle.counts.proofs.WeighLaws.{self_trade_by_is, frequent_by_is, large_by_is}
use Rattle.demands.specs.Spared.{ExemptByClause, CountsByClauses}

pub exempt_by_clause : ExemptByClause
exempt_by_clause = exempt_clause

pub counts_by_clauses : CountsByClauses
unfolding plan_for plan_of reasons_of counts_as
counts_by_clauses = record {
  self_trade = λ t r.
      let e = t.contract (contract_of t r.contract) in
      or-false _ ∙ or-false _ ∙ sym (self_trade_by_is t.text e r (group_of t r.first) (group_of t r.second));
  frequent = λ t r. or-false _ ∙ sym (frequent_by_is t.text (t.contract (contract_of t r.contract)) r);
  large_one = λ t r. sym (large_by_is t.text (t.contract (contract_of t r.contract)) r);
}
