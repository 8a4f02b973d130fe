-- Laws of the cells that a record raises: the raises, one after the other, do not wrap. Assumes nothing.
use mathlib.Core.Path.{◌≡◌, refl}
use mathlib.Core.Bool.{Bool, true, false, ◌&&◌, ◌||◌}
use mathlib.Core.List.{List, [], ◌∷◌}
use Prim.Native.Nat.{ℕ, zero, suc, ◌+◌, ◌≤◌, ◌<◌}
use native.Mathlib.Omega.{arith}
use lib.Dec.{lit<, ltb}
use lib.ListN.{get_or, set}
use borrow.Author.Tests.{leb-false, ltb-false}
use Rattle.wire.specs.Choice.{pick}
use Rattle.wire.proofs.ChoiceLaws.{pick_zero, or_left, or_right}
use Rattle.rules.specs.declared.kinds.Kinds.{Kinds}
use Rattle.counts.specs.declared.weigh.Plan.{Plan}
use Rattle.counts.specs.Counting.{counts_as}
use Rattle.counts.specs.Cells.{cell_for, cell_changed, cells_changed, bumped, raised_for, plan_fault}
use Rattle.counts.specs.Way.{Small}

-- a store of at most m leaves every cell at most m
set_le : (c : List ℕ) (i j v m : ℕ) → v ≤ m → get_or c j 0 ≤ m → get_or (set c i v) j 0 ≤ m
set_le [] i j v m p h = h
set_le (x ∷ xs) zero zero v m p h = p
set_le (x ∷ xs) zero (suc j) v m p h = h
set_le (x ∷ xs) (suc i) zero v m p h = h
set_le (x ∷ xs) (suc i) (suc j) v m p h = set_le xs i j v m p h

-- one more in a cell of at most m leaves every cell of at most m at most m + 1
bump_le : (b : Bool) (i j m : ℕ) (c : List ℕ) → (b ≡ true → get_or c i 0 ≤ m) → get_or c j 0 ≤ m
    → get_or (bumped b i c) j 0 ≤ m + 1
unfolding bumped pick
bump_le true i j m c p h =
    let q : get_or c i 0 ≤ m = p refl in
    set_le c i j (get_or c i 0 + 1) (m + 1) (omega arith) (omega arith)
bump_le false i j m c p h = omega arith

-- a test that is not met together with one that is met is not met
and_then : (a b : Bool) → a && b ≡ false → a ≡ true → b ≡ false
and_then true b e h = e
and_then false b e h = cc

module _ (kinds : Kinds) (p : Plan) (c : List ℕ) where
  -- raising the cell of one kind makes that of another one more at most
  small_more : (m k j : ℕ) → Small m kinds p c k → Small m kinds p c j
      → Small (m + 1) kinds p (raised_for kinds p k c) j
  unfolding Small raised_for
  small_more m k j h q e = bump_le (counts_as p k) (cell_for kinds p k) (cell_for kinds p j) m c h (q e)

  -- a larger bound bounds as well
  small_up : (m n k : ℕ) → m ≤ n → Small m kinds p c k → Small n kinds p c k
  unfolding Small
  small_up m n k l h e = let q : get_or c (cell_for kinds p k) 0 ≤ m = h e in omega arith

  -- a cell that would be raised and is not changed stands at the records taken at most
  unchanged : (n k : ℕ) → cell_changed kinds n p c k ≡ false → Small n kinds p c k
  unfolding Small cell_changed
  unchanged n k e h =
      let stands = get_or c (cell_for kinds p k) 0 in
      ltb-false n stands (and_then (counts_as p k) (ltb n stands) e h)

-- what each of the three raises asks, where no cell is changed and the day is not full
module _ (kinds : Kinds) (n : ℕ) (p : Plan) (c : List ℕ) (few : n < 1000000)
    (e : cells_changed kinds n p c ≡ false) where
  -- the cell of one kind is changed
  abbrev changed : ℕ → Bool
  changed = cell_changed kinds n p c

  -- neither the first nor the second is changed
  first_two : changed 1 || changed 2 ≡ false
  unfolding cells_changed
  first_two = or_left (changed 1 || changed 2) (changed 3) e

  -- so before the raises each cell stands at the records taken at most
  small_1 : Small n kinds p c 1
  small_1 = unchanged kinds p c n 1 (or_left (changed 1) (changed 2) first_two)

  small_2 : Small n kinds p c 2
  small_2 = unchanged kinds p c n 2 (or_right (changed 1) (changed 2) first_two)

  small_3 : Small n kinds p c 3
  unfolding cells_changed
  small_3 = unchanged kinds p c n 3 (or_right (changed 1 || changed 2) (changed 3) e)

  -- the counts after the first raise, and after the second
  abbrev once : List ℕ
  once = raised_for kinds p 1 c

  abbrev twice : List ℕ
  twice = raised_for kinds p 2 once

  -- and each raise before adds one at most: a cell is far from wrapping
  pub ready_1 : Small 4294967294 kinds p c 1
  ready_1 = small_up kinds p c n 4294967294 1 (omega arith) small_1

  pub ready_2 : Small 4294967294 kinds p once 2
  ready_2 = small_up kinds p once (n + 1) 4294967294 2 (omega arith) (small_more kinds p c n 1 2 small_1 small_2)

  pub ready_3 : Small 4294967294 kinds p twice 3
  ready_3 =
      let second = small_more kinds p c n 1 2 small_1 small_2 in
      let third = small_more kinds p c n 1 3 small_1 small_3 in
      small_up kinds p twice (n + 1 + 1) 4294967294 3 (omega arith) (small_more kinds p once (n + 1) 2 3 second third)

-- what each of the three raises asks
pub ruleset ready = (ready_1, ready_2, ready_3)

-- a plan that is not refused: the day is not full, and no cell that is to be raised is changed
pub plan_fits : (kinds : Kinds) (n : ℕ) (p : Plan) (c : List ℕ) → plan_fault kinds n p c ≡ 0
    → (n < 1000000) × (cells_changed kinds n p c ≡ false)
unfolding plan_fault
plan_fits kinds n p c e =
    let e1 = pick_zero _ 14 _ (lit< tt) e in
    let e2 = pick_zero _ 19 _ (lit< tt) e1.1 in
    (leb-false _ _ e1.0, e2.0)
