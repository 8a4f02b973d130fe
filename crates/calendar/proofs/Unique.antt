-- No second answer fits the contract of a public function: `Post` is what its own `ensures` says. Assumes nothing.
use mathlib.Core.Path.{◌≡◌, sym, ◌∙◌}
use mathlib.Core.Bool.{Bool}
use Prim.Native.Nat.{ℕ}
use Rattle.calendar.proofs.year_of.Reads as year_of
use Rattle.calendar.proofs.is_day.Reads as is_day
use Rattle.calendar.proofs.day_number.Reads as day_number

pub year_of_unique : (date r₁ r₂ : ℕ) → year_of.Post tt (date, tt) r₁ (date, tt) → year_of.Post tt (date, tt) r₂
    (date, tt) → r₁ ≡ r₂
year_of_unique date r₁ r₂ p q = p ∙ sym q

pub is_day_unique : (date : ℕ) (r₁ r₂ : Bool) → is_day.Post tt (date, tt) r₁ (date, tt)
    → is_day.Post tt (date, tt) r₂ (date, tt) → r₁ ≡ r₂
is_day_unique date r₁ r₂ p q = p ∙ sym q

pub day_number_unique : (date r₁ r₂ : ℕ) → day_number.Post tt (date, tt) r₁ (date, tt)
    → day_number.Post tt (date, tt) r₂ (date, tt) → r₁ ≡ r₂
day_number_unique date r₁ r₂ p q = p ∙ sym q
