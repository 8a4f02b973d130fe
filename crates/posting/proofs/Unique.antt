-- No second answer, and no second buffer, fits the contract of a public function: `Post` is what its own `ensures`
-- says, `a` its arguments, `s` its buffers when it returns. Assumes nothing.
use mathlib.Core.Path.{◌≡◌, sym, ◌∙◌}
use mathlib.Core.Bool.{Bool}
use Prim.Native.Nat.{ℕ}
use Rattle.std.specs.Prelude.{Result, ⊤}
use Rattle.wire.specs.declared.refusal.Refusal.{Refusal}
use Rattle.wire.proofs.AnswerLaws.{one_outcome}
use Rattle.posting.proofs.head.put_head.Reads as put_head
use Rattle.posting.proofs.fresh.fresh_as.Reads as fresh_as
use Rattle.posting.proofs.raise.is_later_year.Reads as is_later_year
use Rattle.posting.proofs.raise.next_total.Reads as next_total
use Rattle.posting.proofs.raise.place_in.Reads as place_in
use Rattle.posting.proofs.raise.raise_group.Reads as raise_group

pub put_head_unique : (κs : _) (a : _) (r₁ r₂ : _) (s₁ s₂ : _)
    → put_head.Post κs a r₁ s₁ → put_head.Post κs a r₂ s₂ → s₁.0.now ≡ s₂.0.now
put_head_unique κs a r₁ r₂ s₁ s₂ p q = p ∙ sym q

pub fresh_as_unique : (κs : _) (a : _) (r₁ r₂ : Result ⊤ Refusal) (s₁ s₂ : _)
    → fresh_as.Post κs a r₁ s₁ → fresh_as.Post κs a r₂ s₂ → (r₁ ≡ r₂) × (s₁.1.0.now ≡ s₂.1.0.now)
fresh_as_unique κs a r₁ r₂ s₁ s₂ p q = one_outcome p q

pub is_later_year_unique : (κs : _) (a : _) (r₁ r₂ : Bool) (s₁ s₂ : _)
    → is_later_year.Post κs a r₁ s₁ → is_later_year.Post κs a r₂ s₂ → r₁ ≡ r₂
is_later_year_unique κs a r₁ r₂ s₁ s₂ p q = p ∙ sym q

pub next_total_unique : (κs : _) (a : _) (r₁ r₂ : ℕ) (s₁ s₂ : _)
    → next_total.Post κs a r₁ s₁ → next_total.Post κs a r₂ s₂ → r₁ ≡ r₂
next_total_unique κs a r₁ r₂ s₁ s₂ p q = p ∙ sym q

pub place_in_unique : (κs : _) (a : _) (r₁ r₂ : ℕ) (s₁ s₂ : _)
    → place_in.Post κs a r₁ s₁ → place_in.Post κs a r₂ s₂ → r₁ ≡ r₂
place_in_unique κs a r₁ r₂ s₁ s₂ p q = p ∙ sym q

pub raise_group_unique : (κs : _) (a : _) (r₁ r₂ : _) (s₁ s₂ : _)
    → raise_group.Post κs a r₁ s₁ → raise_group.Post κs a r₂ s₂ → s₁.0.now ≡ s₂.0.now
raise_group_unique κs a r₁ r₂ s₁ s₂ p q = p ∙ sym q
