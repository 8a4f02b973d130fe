-- No second answer fits the contract of a public function: `Post` is what its own `ensures` says, `a` its arguments.
-- Assumes nothing.
use mathlib.Core.Path.{◌≡◌, sym, ◌∙◌}
use Prim.Native.Nat.{ℕ}
use Rattle.exemptions.specs.declared.lookup.Codes.{Codes}
use Rattle.exemptions.specs.declared.clause.Clauses.{Clauses}
use Rattle.exemptions.proofs.clause.clause_of.Reads as clause_of
use Rattle.exemptions.proofs.clause.clauses_of.Reads as clauses_of
use Rattle.exemptions.proofs.lookup.codes_at.Reads as codes_at
use Rattle.exemptions.proofs.lookup.entry_of.Reads as entry_of

pub clause_of_unique : (κs : _) (a : _) (r₁ r₂ : ℕ) (s₁ s₂ : _)
    → clause_of.Post κs a r₁ s₁ → clause_of.Post κs a r₂ s₂ → r₁ ≡ r₂
clause_of_unique κs a r₁ r₂ s₁ s₂ p q = p ∙ sym q

pub clauses_of_unique : (κs : _) (a : _) (r₁ r₂ : Clauses) (s₁ s₂ : _)
    → clauses_of.Post κs a r₁ s₁ → clauses_of.Post κs a r₂ s₂ → r₁ ≡ r₂
clauses_of_unique κs a r₁ r₂ s₁ s₂ p q = p ∙ sym q

pub codes_at_unique : (κs : _) (a : _) (r₁ r₂ : Codes) (s₁ s₂ : _)
    → codes_at.Post κs a r₁ s₁ → codes_at.Post κs a r₂ s₂ → r₁ ≡ r₂
codes_at_unique κs a r₁ r₂ s₁ s₂ p q = p ∙ sym q

pub entry_of_unique : (κs : _) (a : _) (r₁ r₂ : ℕ) (s₁ s₂ : _)
    → entry_of.Post κs a r₁ s₁ → entry_of.Post κs a r₂ s₂ → r₁ ≡ r₂
entry_of_unique κs a r₁ r₂ s₁ s₂ p q = p ∙ sym q
