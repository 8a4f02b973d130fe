-- What a question that is not refused asks for. Assumes nothing.
use mathlib.Core.Path.{◌≡◌}
use mathlib.Core.Bool.{true, not, ◌&&◌}
use mathlib.Core.List.{List}
use Prim.Native.Nat.{ℕ, ◌+◌, ◌<◌, ◌≤◌}
use native.Mathlib.Omega.{arith}
use borrow.Author.Tests.{leb-true, ltb-true, not-false}
use lib.Dec.{leb, ltb}
use Rattle.std.specs.Prelude.{Ok}
use Rattle.wire.proofs.ChosenLaws.{chosen}
use Rattle.wire.specs.Choice.{within}
use Rattle.wire.specs.Outcomes.{checked}
use Rattle.wire.proofs.ChoiceLaws.{pick_zero, pick_le, and_left, and_right, bounds}
use Rattle.wire.proofs.RefusalLaws.{accepted}
use Rattle.rules.specs.declared.kinds.Kinds.{Kinds}
use Rattle.rules.specs.Kinds.{kinds_in, first_kind}
use Rattle.rules.proofs.KindLaws.{few, first_low}
use Rattle.places.proofs.LadderLaws.{few_times, ladder_few}
use Rattle.book.specs.declared.shape.Shape.{Shape}
use Rattle.places.specs.Places.{HasLadder, ladder_of}
use Rattle.book.specs.Sound.{sound_as}
use Rattle.book.specs.Ask.{in_range, ask_fault_as}

-- how many kinds there are, and how many ladders
pub ruleset few_kinds = (few, first_low, few_times)

pub in_range_lem : (k : Kinds) (group kind family : ℕ) → in_range k group kind family ≡ true
    → HasLadder k group kind family
unfolding in_range
in_range_lem k group kind family e =
    let groups = within 1 128 group in
    let from = leb (first_kind k) kind in
    let to = ltb kind (first_kind k + kinds_in k) in
    let two = and_left (groups && (from && to)) (leb family 15) e in
    let g = bounds 1 128 group (and_left groups (from && to) two) in
    let kinds = and_right groups (from && to) two in record {
      row = record {
        first_group = g.0;
        last_group = g.1;
        least_kind = leb-true (first_kind k) kind (and_left from to kinds);
        last_kind = ltb-true kind (first_kind k + kinds_in k) (and_right from to kinds);
      };
      last_family = leb-true family 15 (and_right (groups && (from && to)) (leb family 15) e);
    }

pub record Asking (shape : Shape) (b : List ℕ) (group kind family : ℕ) : Type 0 where
  pub good : sound_as shape b ≡ true
  pub there : HasLadder shape.kinds group kind family

pub asking : (shape : Shape) (b : List ℕ) (group kind family : ℕ) → ask_fault_as shape b group kind family ≡ 0
    → Asking shape b group kind family
unfolding ask_fault_as
asking shape b group kind family e =
    let one = pick_zero (not (sound_as shape b)) 17 _ (omega arith) e in
    let two = pick_zero (not (in_range shape.kinds group kind family)) 21 0 (omega arith) one.1 in
    record { good = not-false _ one.0; there = in_range_lem shape.kinds group kind family (not-false _ two.0) }

-- every number is a refusal's
pub ask_most : (shape : Shape) (b : List ℕ) (group kind family : ℕ) → ask_fault_as shape b group kind family ≤ 22
unfolding ask_fault_as
ask_most shape b group kind family =
    pick_le _ 17 _ 22 (omega arith) (pick_le _ 21 0 22 (omega arith) (omega arith))

-- a ladder that is asked for is one of few
pub ladder_asked : (shape : Shape) (b : List ℕ) (group kind family ladder : ℕ)
    → Ok tt ≡ checked (ask_fault_as shape b group kind family) → ladder ≡ ladder_of shape.kinds group kind family
    → ladder < 8192
ladder_asked shape b group kind family ladder e is =
    let l = ladder_few _ _ _ _ (asking shape b group kind family (accepted _ _ e).0).there in
    omega (arith, l, is)

-- what `ask_as` knows once its check has passed
pub ruleset asks = (accepted, asking, ladder_asked, chosen)
