-- Laws of the search for a ladder's lowest place, and of the room for all of them. Assumes nothing.
use mathlib.Core.Path.{◌≡◌}
use mathlib.Core.Bool.{Bool, ◌&&◌}
use mathlib.Core.List.{List}
use Prim.Native.Nat.{ℕ, ◌+◌, ◌*◌, ◌/◌}
use lib.Dec.{eqb}
use lib.ListN.{length, get_or, length-take}
use Rattle.wire.specs.Below.{first}
use Rattle.wire.proofs.BelowLaws.{first_cong}
use Rattle.rules.specs.declared.text.Text.{Text}
use Rattle.rules.specs.declared.kinds.Kinds.{Kinds}
use Rattle.rules.specs.declared.measure.Times.{Times}
use Rattle.rules.proofs.KindLaws.{kinds_most}
use Rattle.rules.specs.Measure.{times, enough, reached}
use Rattle.places.specs.Places.{kind_at, family_at}
use Rattle.places.proofs.LadderLaws.{ladder_cell}
use Rattle.desk.specs.Offences.{reached_at, lowest}
use Rattle.desk.specs.End.{in_cells}
use Rattle.desk.specs.Way.{place_at}

-- the test as it is made at place k, on cells that begin at `from`
abbrev pub tested_at : (fams c : List ℕ) (family from : ℕ) → Times → ℕ → Bool
tested_at fams c family from number k = eqb (get_or fams k 0) family && reached (times (get_or c (from + k) 0)) number

module _ (text : Text) (kinds : Kinds) (fams c : List ℕ) (ladder : ℕ) where
  abbrev reached_in : ℕ → Bool
  reached_in = reached_at (λ k. get_or fams k 0) (length fams) text kinds (in_cells kinds c ladder) ladder

  -- it is that of the rules
  tested : (number : Times) → number ≡ enough text (kind_at kinds ladder) → (k : ℕ)
      → tested_at fams c (family_at ladder) (ladder / 16 * 32) number k ≡ reached_in k
  unfolding reached_at in_cells
  tested number e k = rw (ladder_cell kinds ladder k, e)

  pub lowest_is : (number : Times) → number ≡ enough text (kind_at kinds ladder)
      → first (tested_at fams c (family_at ladder) (ladder / 16 * 32) number) (length fams)
      ≡ place_at text kinds fams c ladder
  unfolding place_at lowest
  lowest_is number e = first_cong _ reached_in (length fams) (λ k l. tested number e k)

-- a rulebook's ladders are within the room for the most kinds
pub ruleset within_most = (kinds_most, length-take)
