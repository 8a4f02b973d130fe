-- No second answer, and no second buffer, fits the contract of a call or a question: `Post` is what its own `ensures`
-- says, `a` its arguments, `s` its buffers when it returns. Assumes nothing.
use mathlib.Core.Path.{◌≡◌, sym, ◌∙◌}
use mathlib.Core.List.{List}
use Prim.Native.Nat.{ℕ}
use Rattle.wire.proofs.AnswerLaws.{one_outcome}
use Rattle.std.specs.Prelude.{Result, ⊤}
use Rattle.wire.specs.declared.refusal.Refusal.{Refusal}
use Rattle.book.specs.declared.ask.Asked.{Asked}
use Rattle.counts.specs.declared.weigh.Plan.{Plan}
use Rattle.counts.specs.declared.weigh.Reasons.{Reasons}
use Rattle.desk.specs.declared.state.State.{State}
use Rattle.desk.proofs.open.would_open.Reads as would_open_reads
use Rattle.desk.proofs.open.open.Reads as open_reads
use Rattle.desk.proofs.take.would_take.Reads as would_take_reads
use Rattle.desk.proofs.take.take.Reads as take_reads
use Rattle.desk.proofs.end.would_end.Reads as would_end_reads
use Rattle.desk.proofs.end.end.Reads as end_reads
use Rattle.desk.proofs.abandon.abandon.Reads as abandon_reads
use Rattle.desk.proofs.books.fresh.Reads as fresh_reads
use Rattle.desk.proofs.books.ask.Reads as ask_reads

pub would_open_unique : (κs : _) (a : _) (r₁ r₂ : Result ⊤ Refusal) (s₁ s₂ : _) → would_open_reads.Post κs a r₁ s₁
    → would_open_reads.Post κs a r₂ s₂ → r₁ ≡ r₂
would_open_unique κs a r₁ r₂ s₁ s₂ p q = p ∙ sym q

pub open_unique : (κs : _) (a : _) (r₁ r₂ : Result State Refusal) (s₁ s₂ : _) → open_reads.Post κs a r₁ s₁
    → open_reads.Post κs a r₂ s₂
    → (r₁ ≡ r₂) × (s₁.1.1.1.0.now ≡ s₂.1.1.1.0.now)
open_unique κs a r₁ r₂ s₁ s₂ p q = one_outcome p q

pub would_take_unique : (κs : _) (a : _) (r₁ r₂ : Result (Plan × Reasons) Refusal) (s₁ s₂ : _)
    → would_take_reads.Post κs a r₁ s₁ → would_take_reads.Post κs a r₂ s₂ → r₁ ≡ r₂
would_take_unique κs a r₁ r₂ s₁ s₂ p q = p ∙ sym q

pub take_unique : (κs : _) (a : _) (r₁ r₂ : Result (State × Reasons) Refusal) (s₁ s₂ : _) → take_reads.Post κs a r₁ s₁
    → take_reads.Post κs a r₂ s₂
    → (r₁ ≡ r₂) × (s₁.1.1.1.0.now ≡ s₂.1.1.1.0.now)
take_unique κs a r₁ r₂ s₁ s₂ p q = one_outcome p q

pub would_end_unique : (κs : _) (a : _) (r₁ r₂ : Result ℕ Refusal) (s₁ s₂ : _) → would_end_reads.Post κs a r₁ s₁
    → would_end_reads.Post κs a r₂ s₂ → r₁ ≡ r₂
would_end_unique κs a r₁ r₂ s₁ s₂ p q = p ∙ sym q

pub end_unique : (κs : _) (a : _) (r₁ r₂ : Result (State × ℕ) Refusal) (s₁ s₂ : _)
    → end_reads.Post κs a r₁ s₁ → end_reads.Post κs a r₂ s₂
    → (r₁ ≡ r₂) × (◌≡◌ {A = List ℕ × List ℕ} (s₁.1.1.1.0.now, s₁.1.1.1.1.1.0.now)
    (s₂.1.1.1.0.now, s₂.1.1.1.1.1.0.now))
end_unique κs a r₁ r₂ s₁ s₂ p q = one_outcome p q

pub abandon_unique : (κs : _) (a : _) (r₁ r₂ : Result State Refusal) (s₁ s₂ : _) → abandon_reads.Post κs a r₁ s₁
    → abandon_reads.Post κs a r₂ s₂ → r₁ ≡ r₂
abandon_unique κs a r₁ r₂ s₁ s₂ p q = p ∙ sym q

pub fresh_unique : (κs : _) (a : _) (r₁ r₂ : Result ⊤ Refusal) (s₁ s₂ : _) → fresh_reads.Post κs a r₁ s₁
    → fresh_reads.Post κs a r₂ s₂
    → (r₁ ≡ r₂) × (s₁.0.now ≡ s₂.0.now)
fresh_unique κs a r₁ r₂ s₁ s₂ p q = one_outcome p q

pub ask_unique : (κs : _) (a : _) (r₁ r₂ : Result Asked Refusal) (s₁ s₂ : _)
    → ask_reads.Post κs a r₁ s₁ → ask_reads.Post κs a r₂ s₂
    → r₁ ≡ r₂
ask_unique κs a r₁ r₂ s₁ s₂ p q = p ∙ sym q
