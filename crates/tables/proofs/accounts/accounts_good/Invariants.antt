use mathlib.Core.Path.{◌≡◌}
use Rattle.wire.specs.Below.{every}
use Rattle.tables.specs.Accounts.{account_good_at, number_before}
use Rattle.tables.proofs.accounts.accounts_good.Given as goal

abbrev pub invariant-loop-entry : goal.invariant-loop-entry
invariant-loop-entry l = (l.before ≡ number_before l.part l.entry-index)
    × (l.good ≡ every (account_good_at l.part) l.entry-index)
