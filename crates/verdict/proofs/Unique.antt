-- No second answer, and no second buffer, fits the contract of a public function: `Post` is what its own `ensures`
-- says. Assumes nothing.
use mathlib.Core.Path.{◌≡◌, sym, ◌∙◌}
use mathlib.Core.List.{List}
use Prim.Native.Nat.{ℕ}
use Rattle.wire.proofs.AnswerLaws.{one_outcome}
use Rattle.std.specs.Prelude.{Result}
use Rattle.wire.specs.declared.refusal.Refusal.{Refusal}
use Rattle.verdict.proofs.count.count_found.Reads as count_found
use Rattle.verdict.proofs.ruling.Ruling.settle.Reads as settle

pub count_found_unique : (κs : _) (a : _) (r₁ r₂ : ℕ) (s₁ s₂ : _) → count_found.Post κs a r₁ s₁
    → count_found.Post κs a r₂ s₂ → r₁ ≡ r₂
count_found_unique κs a r₁ r₂ s₁ s₂ p q = p ∙ sym q

-- the answer, and the book with the findings
pub settle_unique : (κs : _) (a : _) (r₁ r₂ : Result ℕ Refusal) (s₁ s₂ : _)
    → settle.Post κs a r₁ s₁ → settle.Post κs a r₂ s₂
    → (r₁ ≡ r₂) × (◌≡◌ {A = List ℕ × List ℕ} (s₁.1.1.0.now, s₁.1.1.1.0.now) (s₂.1.1.0.now, s₂.1.1.1.0.now))
settle_unique κs a r₁ r₂ s₁ s₂ p q = one_outcome p q
