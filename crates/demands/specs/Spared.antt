-- 02, K5, "Tell me why it was spared": what the clauses say of a record. The statements; proofs/Spared has the theorems
-- under the same names. That the clauses which a call passes on are those of the record's own codes is demand 1's
-- `ValuesNamed` and, over any run, demand 2's `CallsRuled`.
use Rattle.std.specs.Prelude.{◌≡◌, ◌&&◌, not, ℕ, eqb}
use Rattle.rules.specs.declared.text.Text.{Text}
use Rattle.exemptions.specs.Exemption.{exempt, clause}
use Rattle.rules.specs.Measure.{large}
use Rattle.daylog.specs.declared.record.Record.{Record}
use Rattle.tables.specs.Tables.{Tables, contract_of, group_of}
use Rattle.counts.specs.Counting.{plan_of, reasons_of, counts_as}

-- an order is exempt exactly where its clause is not 0
abbrev pub ExemptByClause : Type 0
ExemptByClause = (text : Text) (type' kind instruction purpose : ℕ)
    → exempt text type' kind instruction purpose ≡ not (eqb (clause text type' kind instruction purpose) 0)

-- "Counts .. don't change": what a record counts as, told by its clauses. A trade of one group where neither order has
-- one for kind 1, a cancel where its order has none for kind 2, a large cancel where it has none for kind 3
pub record CountsByClauses : Type 0 where
  pub self_trade : (t : Tables) (r : Record) → counts_as (plan_of t r) 1
      ≡ eqb r.sort 1 && (eqb (group_of t r.first) (group_of t r.second) && eqb (reasons_of t r).first.own 0
      && eqb (reasons_of t r).second.own 0)
  pub frequent : (t : Tables) (r : Record) → counts_as (plan_of t r) 2
      ≡ eqb r.sort 2 && eqb (reasons_of t r).first.frequent 0
  pub large_one : (t : Tables) (r : Record) → counts_as (plan_of t r) 3
      ≡ eqb r.sort 2 && large t.text r.lots (t.contract (contract_of t r.contract)).largest
      && eqb (reasons_of t r).first.over 0
