use mathlib.Core.Path.{◌≡◌}
use mathlib.Core.List.{List}
use Prim.Native.Nat.{ℕ}
use Rattle.positions.specs.Way.{summed}
use Rattle.tables.specs.Accounts.{account_at}
use Rattle.positions.proofs.sums.sizes_in.Given as goal

abbrev pub groups_of : List ℕ → ℕ → ℕ
groups_of accounts k = (account_at accounts k).group

-- the sizes by the first n accounts
abbrev pub sizes_to : List ℕ → ℕ → List ℕ
sizes_to accounts = summed 129 (groups_of accounts) (λ k. 1)

abbrev pub invariant-loop-entry : goal.invariant-loop-entry
invariant-loop-entry l = l.sizes ≡ sizes_to l.accounts l.entry-index
