-- No second answer, and no second buffer, fits the contract of a public function: `Post` is what its own `ensures`
-- says, `a` its arguments, `s` its buffers when it returns. Assumes nothing.
use mathlib.Core.Path.{◌≡◌, sym, ◌∙◌}
use mathlib.Core.Bool.{Bool}
use Prim.Native.Nat.{ℕ}
use Rattle.std.specs.Prelude.{Result, ⊤}
use Rattle.wire.specs.declared.refusal.Refusal.{Refusal}
use Rattle.book.specs.declared.shape.Shape.{Shape}
use Rattle.book.specs.declared.ask.Asked.{Asked}
use Rattle.book.proofs.sound.is_marked.Reads as is_marked
use Rattle.book.proofs.sound.is_sound_as.Reads as is_sound_as
use Rattle.book.proofs.sound.rulebook_of.Reads as rulebook_of
use Rattle.book.proofs.sound.shape_of.Reads as shape_of
use Rattle.book.proofs.sound.last_date.Reads as last_date
use Rattle.book.proofs.ask.ask_as.Reads as ask_as
use Rattle.book.proofs.fits.check_fits.Reads as check_fits
use Rattle.book.proofs.shape.day_shape.Reads as day_shape

pub is_marked_unique : (κs : _) (a : _) (r₁ r₂ : Bool) (s₁ s₂ : _)
    → is_marked.Post κs a r₁ s₁ → is_marked.Post κs a r₂ s₂ → r₁ ≡ r₂
is_marked_unique κs a r₁ r₂ s₁ s₂ p q = p ∙ sym q

pub is_sound_as_unique : (κs : _) (a : _) (r₁ r₂ : Bool) (s₁ s₂ : _)
    → is_sound_as.Post κs a r₁ s₁ → is_sound_as.Post κs a r₂ s₂ → r₁ ≡ r₂
is_sound_as_unique κs a r₁ r₂ s₁ s₂ p q = p ∙ sym q

pub rulebook_of_unique : (κs : _) (a : _) (r₁ r₂ : ℕ) (s₁ s₂ : _)
    → rulebook_of.Post κs a r₁ s₁ → rulebook_of.Post κs a r₂ s₂ → r₁ ≡ r₂
rulebook_of_unique κs a r₁ r₂ s₁ s₂ p q = p ∙ sym q

pub shape_of_unique : (κs : _) (a : _) (r₁ r₂ : Shape) (s₁ s₂ : _)
    → shape_of.Post κs a r₁ s₁ → shape_of.Post κs a r₂ s₂ → r₁ ≡ r₂
shape_of_unique κs a r₁ r₂ s₁ s₂ p q = p ∙ sym q

pub last_date_unique : (κs : _) (a : _) (r₁ r₂ : ℕ) (s₁ s₂ : _)
    → last_date.Post κs a r₁ s₁ → last_date.Post κs a r₂ s₂ → r₁ ≡ r₂
last_date_unique κs a r₁ r₂ s₁ s₂ p q = p ∙ sym q

pub ask_as_unique : (κs : _) (a : _) (r₁ r₂ : Result Asked Refusal) (s₁ s₂ : _)
    → ask_as.Post κs a r₁ s₁ → ask_as.Post κs a r₂ s₂ → r₁ ≡ r₂
ask_as_unique κs a r₁ r₂ s₁ s₂ p q = p ∙ sym q

pub check_fits_unique : (κs : _) (a : _) (r₁ r₂ : Result ⊤ Refusal) (s₁ s₂ : _)
    → check_fits.Post κs a r₁ s₁ → check_fits.Post κs a r₂ s₂ → r₁ ≡ r₂
check_fits_unique κs a r₁ r₂ s₁ s₂ p q = p ∙ sym q

pub day_shape_unique : (κs : _) (a : _) (r₁ r₂ : Shape) (s₁ s₂ : _)
    → day_shape.Post κs a r₁ s₁ → day_shape.Post κs a r₂ s₂ → r₁ ≡ r₂
day_shape_unique κs a r₁ r₂ s₁ s₂ p q = p ∙ sym q
