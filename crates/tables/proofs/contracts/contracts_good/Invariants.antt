use mathlib.Core.Path.{◌≡◌}
use Rattle.wire.specs.Below.{every}
use Rattle.tables.specs.ContractEntries.{contract_good_at, id_before}
use Rattle.tables.proofs.contracts.contracts_good.Given as goal

abbrev pub invariant-loop-entry : goal.invariant-loop-entry
invariant-loop-entry l = (l.before ≡ id_before l.part l.entry-index)
    × (l.good ≡ every (contract_good_at l.text l.part) l.entry-index)
