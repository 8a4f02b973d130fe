use mathlib.Core.Path.{◌≡◌}
use mathlib.Core.Bool.{true}
use Rattle.wire.specs.Below.{every}
use Rattle.positions.specs.LimitEntries.{limit_count, limited_at, limit_place}
use Rattle.positions.specs.Records.{contract_before, account_before, good_at}
use Rattle.positions.specs.Way.{long_to, short_to}
use Rattle.positions.proofs.sums.add_records.Given as goal

abbrev pub invariant-loop-row : goal.invariant-loop-row
invariant-loop-row l = (l.contract ≡ contract_before l.records l.row-index)
    × (l.account ≡ account_before l.records l.row-index)
    × (l.place ≡ limit_place (limited_at l.contracts) (limit_count l.contracts) l.contract)
    × (every (good_at l.contracts l.accounts l.records) l.row-index ≡ true)
    × (l.sums.longs ≡ long_to l.contracts l.accounts l.records l.row-index)
    × (l.sums.shorts ≡ short_to l.contracts l.accounts l.records l.row-index)
