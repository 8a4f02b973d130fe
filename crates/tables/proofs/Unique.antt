-- No second answer fits the contract of a public function: `Post` is what its own `ensures` says, `a` its arguments.
-- Assumes nothing.
use mathlib.Core.Path.{◌≡◌, sym, ◌∙◌}
use mathlib.Core.Bool.{Bool}
use Prim.Native.Nat.{ℕ}
use Rattle.std.specs.Prelude.{Option}
use Rattle.tables.specs.declared.contracts.Contract.{Contract}
use Rattle.tables.proofs.accounts.accounts_good.Reads as accounts_good
use Rattle.tables.proofs.accounts.has_member.Reads as has_member
use Rattle.tables.proofs.accounts.find_account.Reads as find_account
use Rattle.tables.proofs.contracts.contracts_good.Reads as contracts_good
use Rattle.tables.proofs.contracts.contract_at.Reads as contract_at
use Rattle.tables.proofs.contracts.find_contract.Reads as find_contract

pub accounts_good_unique : (κs : _) (a : _) (r₁ r₂ : Bool) (s₁ s₂ : _)
    → accounts_good.Post κs a r₁ s₁ → accounts_good.Post κs a r₂ s₂ → r₁ ≡ r₂
accounts_good_unique κs a r₁ r₂ s₁ s₂ p q = p ∙ sym q

pub has_member_unique : (κs : _) (a : _) (r₁ r₂ : Bool) (s₁ s₂ : _)
    → has_member.Post κs a r₁ s₁ → has_member.Post κs a r₂ s₂ → r₁ ≡ r₂
has_member_unique κs a r₁ r₂ s₁ s₂ p q = p ∙ sym q

-- the bytes of the part that is handed back: its place in memory is not promised
pub find_account_unique : (κs : _) (a : _) (r₁ r₂ : _) (s₁ s₂ : _)
    → find_account.Post κs a r₁ s₁ → find_account.Post κs a r₂ s₂ → r₁.now ≡ r₂.now
find_account_unique κs a r₁ r₂ s₁ s₂ p q = p.0 ∙ sym q.0

pub contracts_good_unique : (κs : _) (a : _) (r₁ r₂ : Bool) (s₁ s₂ : _)
    → contracts_good.Post κs a r₁ s₁ → contracts_good.Post κs a r₂ s₂ → r₁ ≡ r₂
contracts_good_unique κs a r₁ r₂ s₁ s₂ p q = p ∙ sym q

pub contract_at_unique : (κs : _) (a : _) (r₁ r₂ : Contract) (s₁ s₂ : _)
    → contract_at.Post κs a r₁ s₁ → contract_at.Post κs a r₂ s₂ → r₁ ≡ r₂
contract_at_unique κs a r₁ r₂ s₁ s₂ p q = p ∙ sym q

pub find_contract_unique : (κs : _) (a : _) (r₁ r₂ : Option (ℕ × Contract)) (s₁ s₂ : _)
    → find_contract.Post κs a r₁ s₁ → find_contract.Post κs a r₂ s₂ → r₁ ≡ r₂
find_contract_unique κs a r₁ r₂ s₁ s₂ p q = p ∙ sym q
