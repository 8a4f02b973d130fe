-- Laws of the search for a ladder's lowest place. Assumes nothing.
use mathlib.Core.Path.{◌≡◌, sym}
use mathlib.Core.Bool.{Bool, false}
use mathlib.Core.List.{List}
use Prim.Native.Nat.{ℕ, ◌+◌, ◌*◌, ◌/◌}
use borrow.Author.Tests.{eq-eqb, ne_eqb}
use lib.Dec.{eqb}
use lib.ListN.{get_or}
use Rattle.wire.proofs.ChoiceLaws.{and_no}
use Rattle.rules.specs.declared.text.Text.{Text}
use Rattle.places.specs.Places.{family_at}
use Rattle.positions.specs.declared.contracts.Limited.{Limited}
use Rattle.positions.specs.LimitEntries.{limited_at}
use Rattle.positions.specs.Offences.{over_either}
use Rattle.positions.specs.Way.{over_at}
use Rattle.positions.proofs.EntryLaws.{limited_here}

module _ (text : Text) (contracts fams longs shorts : List ℕ) (ladder : ℕ) where
  abbrev pub overs : ℕ → Bool
  overs = over_at text contracts fams longs shorts ladder

  -- a contract of another family, and one of the ladder's
  pub over_not : (c : ℕ) → (get_or fams c 0 ≡ family_at ladder → ⊥) → false ≡ overs c
  unfolding over_at
  over_not c n = sym (and_no (eqb (get_or fams c 0) (family_at ladder)) _ (ne_eqb _ _ n))

  pub over_is : (c : ℕ) (r : Bool) {entry : Limited} → get_or fams c 0 ≡ family_at ladder
      → entry ≡ limited_at contracts c
      → r ≡ over_either text entry (get_or longs (ladder / 16 * 32 + c) 0) (get_or shorts (ladder / 16 * 32 + c) 0)
      → r ≡ overs c
  unfolding over_at
  over_is c r e own is = rw (eq-eqb (get_or fams c 0) (family_at ladder) e, ← own) is

pub ruleset over = (over_not, over_is, limited_here)
