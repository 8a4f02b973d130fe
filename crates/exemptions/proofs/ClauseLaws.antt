-- An order's clause and whether it is exempt. Assumes nothing.
use mathlib.Core.Path.{◌≡◌, refl}
use mathlib.Core.Bool.{Bool, true, false, ◌||◌, not}
use Prim.Native.Nat.{ℕ, ◌+◌}
use lib.Dec.{eqb}
use Rattle.wire.specs.Choice.{pick}
use Rattle.rules.specs.declared.text.Text.{Text}
use Rattle.exemptions.specs.Exemption.{by_instruction, by_purpose, known, exempt, clause}

-- "exempt is exactly: clause is not 0"
pub exempt_clause : (text : Text) (type' kind instruction purpose : ℕ)
    → exempt text type' kind instruction purpose ≡ not (eqb (clause text type' kind instruction purpose) 0)
unfolding pick exempt clause
exempt_clause text type' kind instruction purpose =
    go (known text type' kind instruction purpose)
    (by_instruction text kind instruction)
    (by_purpose text type' kind purpose)
  where
    go : (k i p : Bool) → (not k || i || p) ≡ not (eqb (pick (not k) 1 (pick i 1 0 + pick p 2 0)) 0)
    go false i p = refl
    go true false false = refl
    go true false true = refl
    go true true false = refl
    go true true true = refl
