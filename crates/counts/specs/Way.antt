-- The way, not the meaning: what a record counts as, told by its clauses (proofs/WeighLaws has that it is the meaning);
-- and what must be known before a cell is raised.
use Rattle.std.specs.Prelude.{◌≡◌, Bool, true, ◌&&◌, ℕ, ◌≤◌, List, eqb, get_or}
use Rattle.exemptions.specs.declared.clause.Clauses.{Clauses}
use Rattle.rules.specs.declared.kinds.Kinds.{Kinds}
use Rattle.rules.specs.declared.text.Text.{Text}
use Rattle.rules.specs.Measure.{large}
use Rattle.tables.specs.declared.contracts.Contract.{Contract}
use Rattle.daylog.specs.declared.record.Record.{Record}
use Rattle.counts.specs.declared.weigh.Plan.{Plan}
use Rattle.counts.specs.declared.weigh.Reasons.{Reasons}
use Rattle.counts.specs.Counting.{counts_as}
use Rattle.counts.specs.Cells.{cell_for}

-- the cell that would be raised for a kind stands at m at most
unfoldable pub Small : ℕ → Kinds → Plan → List ℕ → ℕ → Type 0
Small m kinds p c kind = counts_as p kind ≡ true → get_or c (cell_for kinds p kind) 0 ≤ m

-- no clause of an order, or of either, spares it for the kind
abbrev pub self_trade_by : Record → Reasons → (group group2 : ℕ) → Bool
self_trade_by r why group group2 =
    eqb r.sort 1 && (eqb group group2 && eqb why.first.own 0 && eqb why.second.own 0)

abbrev pub frequent_by : Record → Clauses → Bool
frequent_by r order = eqb r.sort 2 && eqb order.frequent 0

abbrev pub large_by : Text → Contract → Record → Clauses → Bool
large_by text e r order = eqb r.sort 2 && large text r.lots e.largest && eqb order.over 0
