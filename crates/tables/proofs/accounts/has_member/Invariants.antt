use mathlib.Core.Path.{◌≡◌}
use mathlib.Core.Bool.{Bool, ◌&&◌, not}
use mathlib.Core.List.{List}
use Prim.Native.Nat.{ℕ}
use lib.Dec.{eqb}
use Rattle.wire.specs.Below.{every}
use Rattle.tables.specs.Accounts.{account_at}
use Rattle.tables.proofs.accounts.has_member.Given as goal

-- the account at a place is a member of the group
abbrev pub member_at : List ℕ → ℕ → ℕ → Bool
member_at s group k = eqb (account_at s k).group group && eqb (account_at s k).kind 2

abbrev pub invariant-loop-entry : goal.invariant-loop-entry
invariant-loop-entry l = l.none ≡ every (λ k. not (member_at l.part l.group k)) l.entry-index
