-- Laws of families. Assumes nothing.
use mathlib.Core.Path.{◌≡◌, refl, sym, ap, ◌∙◌}
use mathlib.Core.Bool.{Bool, true, false}
use Prim.Native.Nat.{ℕ, ◌≤◌}
use native.Mathlib.Omega.{arith}
use borrow.Author.Tests.{ne_eqb}
use lib.Dec.{eqb}
use Rattle.wire.specs.Choice.{pick}
use Rattle.wire.proofs.ChoiceLaws.{pick_yes}
use Rattle.rules.specs.declared.text.Text.{Text}
use Rattle.rules.specs.Choices.{by_three}
use Rattle.rules.specs.Ladders.{family}

other_family : (a b c : Bool) (f : ℕ) → 2 ≤ f → f ≤ 15 → eqb (pick a 0 (pick b 1 (pick c 16 16))) f ≡ false
unfolding pick
other_family true b c f low high = ne_eqb 0 f (λ e. omega arith)
other_family false true c f low high = ne_eqb 1 f (λ e. omega arith)
other_family false false true f low high = ne_eqb 16 f (λ e. omega arith)
other_family false false false f low high = ne_eqb 16 f (λ e. omega arith)

-- in rulebook 1 no contract is of families 2 to 15
pub family_one : (text : Text) (s p f : ℕ) → eqb text.rulebook 1 ≡ true → 2 ≤ f → f ≤ 15 → eqb (family text s p) f
    ≡ false
unfolding family by_three
family_one text s p f e low high =
    ap (λ (n : ℕ). eqb n f) (sym (pick_yes _ _ _ _ e refl)) ∙ other_family (eqb s 1) (eqb s 2) (eqb s 3) f low high
