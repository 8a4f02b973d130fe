-- No second answer fits the contract of `number_in`: `Post` is what its own `ensures` says. Assumes nothing.
use mathlib.Core.Path.{◌≡◌, sym, ◌∙◌}
use Prim.Native.Nat.{ℕ}
use Rattle.words.proofs.number.number_in.Reads as number_in

pub number_in_unique : (κs : _) (a : _) (r₁ r₂ : ℕ) (s₁ s₂ : _) → number_in.Post κs a r₁ s₁
    → number_in.Post κs a r₂ s₂ → r₁ ≡ r₂
number_in_unique κs a r₁ r₂ s₁ s₂ p q = p ∙ sym q
