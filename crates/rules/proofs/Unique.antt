-- No second answer fits the contract of a public function: `Post` is what its own `ensures` says, `a` its arguments.
-- Assumes nothing.
use mathlib.Core.Path.{◌≡◌, sym, ◌∙◌}
use mathlib.Core.Bool.{Bool}
use Prim.Native.Nat.{ℕ}
use Rattle.rules.specs.declared.kinds.Kinds.{Kinds}
use Rattle.rules.specs.declared.measure.Times.{Times}
use Rattle.rules.proofs.codes.has_type.Reads as has_type
use Rattle.rules.proofs.codes.has_instruction.Reads as has_instruction
use Rattle.rules.proofs.codes.has_purpose.Reads as has_purpose
use Rattle.rules.proofs.kinds.kinds_of.Reads as kinds_of
use Rattle.rules.proofs.kinds.kinds_in.Reads as kinds_in
use Rattle.rules.proofs.kinds.first_kind.Reads as first_kind
use Rattle.rules.proofs.ladder.family_of.Reads as family_of_lem
use Rattle.rules.proofs.ladder.rung_of.Reads as rung_of
use Rattle.rules.proofs.ladder.sanction_of.Reads as sanction_of
use Rattle.rules.proofs.limit.is_over.Reads as is_over
use Rattle.rules.proofs.measure.is_large.Reads as is_large
use Rattle.rules.proofs.measure.enough_of.Reads as enough_of
use Rattle.rules.proofs.measure.is_reached.Reads as is_reached
use Rattle.rules.proofs.text.is_rulebook.Reads as is_rulebook

pub has_type_unique : (κs : _) (a : _) (r₁ r₂ : Bool) (s₁ s₂ : _)
    → has_type.Post κs a r₁ s₁ → has_type.Post κs a r₂ s₂ → r₁ ≡ r₂
has_type_unique κs a r₁ r₂ s₁ s₂ p q = p ∙ sym q

pub has_instruction_unique : (κs : _) (a : _) (r₁ r₂ : Bool) (s₁ s₂ : _)
    → has_instruction.Post κs a r₁ s₁ → has_instruction.Post κs a r₂ s₂ → r₁ ≡ r₂
has_instruction_unique κs a r₁ r₂ s₁ s₂ p q = p ∙ sym q

pub has_purpose_unique : (κs : _) (a : _) (r₁ r₂ : Bool) (s₁ s₂ : _)
    → has_purpose.Post κs a r₁ s₁ → has_purpose.Post κs a r₂ s₂ → r₁ ≡ r₂
has_purpose_unique κs a r₁ r₂ s₁ s₂ p q = p ∙ sym q

pub kinds_of_unique : (κs : _) (a : _) (r₁ r₂ : Kinds) (s₁ s₂ : _)
    → kinds_of.Post κs a r₁ s₁ → kinds_of.Post κs a r₂ s₂ → r₁ ≡ r₂
kinds_of_unique κs a r₁ r₂ s₁ s₂ p q = p ∙ sym q

pub kinds_in_unique : (κs : _) (a : _) (r₁ r₂ : ℕ) (s₁ s₂ : _)
    → kinds_in.Post κs a r₁ s₁ → kinds_in.Post κs a r₂ s₂ → r₁ ≡ r₂
kinds_in_unique κs a r₁ r₂ s₁ s₂ p q = p ∙ sym q

pub first_kind_unique : (κs : _) (a : _) (r₁ r₂ : ℕ) (s₁ s₂ : _)
    → first_kind.Post κs a r₁ s₁ → first_kind.Post κs a r₂ s₂ → r₁ ≡ r₂
first_kind_unique κs a r₁ r₂ s₁ s₂ p q = p ∙ sym q

pub family_of_unique : (κs : _) (a : _) (r₁ r₂ : ℕ) (s₁ s₂ : _)
    → family_of_lem.Post κs a r₁ s₁ → family_of_lem.Post κs a r₂ s₂ → r₁ ≡ r₂
family_of_unique κs a r₁ r₂ s₁ s₂ p q = p ∙ sym q

pub rung_of_unique : (κs : _) (a : _) (r₁ r₂ : ℕ) (s₁ s₂ : _)
    → rung_of.Post κs a r₁ s₁ → rung_of.Post κs a r₂ s₂ → r₁ ≡ r₂
rung_of_unique κs a r₁ r₂ s₁ s₂ p q = p ∙ sym q

pub sanction_of_unique : (κs : _) (a : _) (r₁ r₂ : ℕ) (s₁ s₂ : _)
    → sanction_of.Post κs a r₁ s₁ → sanction_of.Post κs a r₂ s₂ → r₁ ≡ r₂
sanction_of_unique κs a r₁ r₂ s₁ s₂ p q = p ∙ sym q

pub is_over_unique : (κs : _) (a : _) (r₁ r₂ : Bool) (s₁ s₂ : _)
    → is_over.Post κs a r₁ s₁ → is_over.Post κs a r₂ s₂ → r₁ ≡ r₂
is_over_unique κs a r₁ r₂ s₁ s₂ p q = p ∙ sym q

pub is_large_unique : (κs : _) (a : _) (r₁ r₂ : Bool) (s₁ s₂ : _)
    → is_large.Post κs a r₁ s₁ → is_large.Post κs a r₂ s₂ → r₁ ≡ r₂
is_large_unique κs a r₁ r₂ s₁ s₂ p q = p ∙ sym q

pub enough_of_unique : (κs : _) (a : _) (r₁ r₂ : Times) (s₁ s₂ : _)
    → enough_of.Post κs a r₁ s₁ → enough_of.Post κs a r₂ s₂ → r₁ ≡ r₂
enough_of_unique κs a r₁ r₂ s₁ s₂ p q = p ∙ sym q

pub is_reached_unique : (κs : _) (a : _) (r₁ r₂ : Bool) (s₁ s₂ : _)
    → is_reached.Post κs a r₁ s₁ → is_reached.Post κs a r₂ s₂ → r₁ ≡ r₂
is_reached_unique κs a r₁ r₂ s₁ s₂ p q = p ∙ sym q

pub is_rulebook_unique : (κs : _) (a : _) (r₁ r₂ : Bool) (s₁ s₂ : _)
    → is_rulebook.Post κs a r₁ s₁ → is_rulebook.Post κs a r₂ s₂ → r₁ ≡ r₂
is_rulebook_unique κs a r₁ r₂ s₁ s₂ p q = p ∙ sym q
