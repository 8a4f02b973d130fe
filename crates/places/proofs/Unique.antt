-- No second answer fits the contract of a function: `Post` is what its own `ensures` says, `a` its arguments. Assumes
-- nothing.
use mathlib.Core.Path.{◌≡◌, sym, ◌∙◌}
use Prim.Native.Nat.{ℕ}
use Rattle.places.proofs.ladders_in.Reads as ladders_in
use Rattle.places.proofs.cells_in.Reads as cells_in
use Rattle.places.proofs.book_size.Reads as book_size
use Rattle.places.proofs.group_at.Reads as group_at
use Rattle.places.proofs.kind_at.Reads as kind_at
use Rattle.places.proofs.cell_of.Reads as cell_of_is

pub ladders_in_unique : (κs : _) (a : _) (r₁ r₂ : ℕ) (s₁ s₂ : _)
    → ladders_in.Post κs a r₁ s₁ → ladders_in.Post κs a r₂ s₂ → r₁ ≡ r₂
ladders_in_unique κs a r₁ r₂ s₁ s₂ p q = p ∙ sym q

pub cells_in_unique : (κs : _) (a : _) (r₁ r₂ : ℕ) (s₁ s₂ : _)
    → cells_in.Post κs a r₁ s₁ → cells_in.Post κs a r₂ s₂ → r₁ ≡ r₂
cells_in_unique κs a r₁ r₂ s₁ s₂ p q = p ∙ sym q

pub book_size_unique : (κs : _) (a : _) (r₁ r₂ : ℕ) (s₁ s₂ : _)
    → book_size.Post κs a r₁ s₁ → book_size.Post κs a r₂ s₂ → r₁ ≡ r₂
book_size_unique κs a r₁ r₂ s₁ s₂ p q = p ∙ sym q

pub group_at_unique : (κs : _) (a : _) (r₁ r₂ : ℕ) (s₁ s₂ : _)
    → group_at.Post κs a r₁ s₁ → group_at.Post κs a r₂ s₂ → r₁ ≡ r₂
group_at_unique κs a r₁ r₂ s₁ s₂ p q = p ∙ sym q

pub kind_at_unique : (κs : _) (a : _) (r₁ r₂ : ℕ) (s₁ s₂ : _)
    → kind_at.Post κs a r₁ s₁ → kind_at.Post κs a r₂ s₂ → r₁ ≡ r₂
kind_at_unique κs a r₁ r₂ s₁ s₂ p q = p ∙ sym q

pub cell_of_unique : (κs : _) (a : _) (r₁ r₂ : ℕ) (s₁ s₂ : _)
    → cell_of_is.Post κs a r₁ s₁ → cell_of_is.Post κs a r₂ s₂ → r₁ ≡ r₂
cell_of_unique κs a r₁ r₂ s₁ s₂ p q = p ∙ sym q
