-- No second answer, and no second buffer, fits the contract of a public function: `Post` is what its own `ensures`
-- says. Assumes nothing.
use mathlib.Core.Path.{◌≡◌, sym, ◌∙◌}
use mathlib.Core.List.{List}
use Prim.Native.Nat.{ℕ}
use Rattle.wire.proofs.AnswerLaws.{one_outcome}
use Rattle.book.specs.declared.shape.Shape.{Shape}
use Rattle.std.specs.Prelude.{⊤, Result}
use Rattle.wire.specs.declared.refusal.Refusal.{Refusal}
use Rattle.book.specs.declared.ask.Asked.{Asked}
use Rattle.positions.proofs.books.position_shape.Reads as position_shape
use Rattle.positions.proofs.books.fresh.Reads as fresh
use Rattle.positions.proofs.books.ask.Reads as ask
use Rattle.positions.proofs.judge.judge.Reads as judge

pub position_shape_unique : (κs : _) (a : _) (r₁ r₂ : Shape) (s₁ s₂ : _) → position_shape.Post κs a r₁ s₁
    → position_shape.Post κs a r₂ s₂ → r₁ ≡ r₂
position_shape_unique κs a r₁ r₂ s₁ s₂ p q = p ∙ sym q

-- the answer, and the book
pub fresh_unique : (κs : _) (a : _) (r₁ r₂ : Result ⊤ Refusal) (s₁ s₂ : _) → fresh.Post κs a r₁ s₁
    → fresh.Post κs a r₂ s₂
    → (r₁ ≡ r₂) × (s₁.0.now ≡ s₂.0.now)
fresh_unique κs a r₁ r₂ s₁ s₂ p q = one_outcome p q

pub ask_unique : (κs : _) (a : _) (r₁ r₂ : Result Asked Refusal) (s₁ s₂ : _) → ask.Post κs a r₁ s₁
    → ask.Post κs a r₂ s₂ → r₁ ≡ r₂
ask_unique κs a r₁ r₂ s₁ s₂ p q = p ∙ sym q

-- the answer, and the book with the findings
pub judge_unique : (κs : _) (a : _) (r₁ r₂ : Result ℕ Refusal) (s₁ s₂ : _) → judge.Post κs a r₁ s₁
    → judge.Post κs a r₂ s₂
    → (r₁ ≡ r₂) × (◌≡◌ {A = List ℕ × List ℕ} (s₁.1.0.now, s₁.1.1.0.now) (s₂.1.0.now, s₂.1.1.0.now))
judge_unique κs a r₁ r₂ s₁ s₂ p q = one_outcome p q
