-- No second answer, and no second buffer, fits the contract of a public function: `Post` is what its own `ensures`
-- says, `a` its arguments, `s` its buffers when it returns. Assumes nothing.
use mathlib.Core.Path.{◌≡◌, sym, ◌∙◌}
use Rattle.std.specs.Prelude.{Result, ⊤}
use Rattle.wire.specs.declared.refusal.Refusal.{Refusal}
use Rattle.counts.specs.declared.weigh.Plan.{Plan}
use Rattle.counts.specs.declared.weigh.Reasons.{Reasons}
use Rattle.counts.proofs.weigh.weigh.Reads as weigh
use Rattle.counts.proofs.cells.check_plan.Reads as check_plan
use Rattle.counts.proofs.cells.raise.Reads as raise

pub weigh_unique : (κs : _) (a : _) (r₁ r₂ : Result (Plan × Reasons) Refusal) (s₁ s₂ : _)
    → weigh.Post κs a r₁ s₁ → weigh.Post κs a r₂ s₂ → r₁ ≡ r₂
weigh_unique κs a r₁ r₂ s₁ s₂ p q = p ∙ sym q

pub check_plan_unique : (κs : _) (a : _) (r₁ r₂ : Result ⊤ Refusal) (s₁ s₂ : _)
    → check_plan.Post κs a r₁ s₁ → check_plan.Post κs a r₂ s₂ → r₁ ≡ r₂
check_plan_unique κs a r₁ r₂ s₁ s₂ p q = p ∙ sym q

pub raise_unique : (κs : _) (a : _) (r₁ r₂ : Result ⊤ Refusal) (s₁ s₂ : _)
    → raise.Post κs a r₁ s₁ → raise.Post κs a r₂ s₂ → (r₁ ≡ r₂) × (s₁.1.1.1.0.now ≡ s₂.1.1.1.0.now)
raise_unique κs a r₁ r₂ s₁ s₂ p q = (p.0 ∙ sym q.0, p.1 ∙ sym q.1)
