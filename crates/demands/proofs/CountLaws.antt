-- The cells are the counts: what a record raises is what it counts for. Assumes nothing.
use mathlib.Core.Path.{◌≡◌, refl, sym, ap, ◌∙◌}
use mathlib.Core.Bool.{Bool, true, false, ◌&&◌, and-false}
use mathlib.Core.List.{List}
use Prim.Native.Nat.{ℕ, zero, suc, ◌+◌, ◌≤◌, ◌<◌}
use native.Mathlib.Nat.{add-zero}
use native.Mathlib.Omega.{arith}
use borrow.Author.Tests.{eqb-true, eqb-false, eq-eqb, ne_eqb}
use lib.Dec.{eqb}
use lib.ListN.{length, get_or, drop, set, length-set}
use lib.Seq.{get_or-set_same, get_or-set_other, drop-set-lt}
use Rattle.wire.specs.Choice.{pick}
use Rattle.wire.proofs.ChoiceLaws.{pick_no}
use Rattle.rules.specs.declared.kinds.Kinds.{Kinds}
use Rattle.rules.proofs.KindLaws.{first_low}
use Rattle.places.specs.Places.{cells, cell_of, HasCell}
use Rattle.places.proofs.LadderLaws.{cell_there, cell_test}
use Rattle.counts.specs.declared.weigh.Plan.{Plan}
use Rattle.counts.specs.Counting.{counts_as}
use Rattle.counts.specs.Cells.{cell_for, bumped, raised_for, raised}

-- one more in a cell, seen at any
bump_at : (b : Bool) (i j : ℕ) (c : List ℕ) → i < length c → get_or (bumped b i c) j 0 ≡ get_or c j 0 + pick
    (b && eqb i j) 1 0
unfolding bumped pick
bump_at false i j c h = sym (add-zero _)
bump_at true i j c h = go (eqb i j) refl
  where
    go : (t : Bool) → eqb i j ≡ t → get_or (set c i (get_or c i 0 + 1)) j 0 ≡ get_or c j 0 + pick t 1 0
    go true e = let p : i ≡ j = eqb-true i j e in rw (← p) (get_or-set_same c i _ 0 h)
    go false e = get_or-set_other c i j _ 0 (λ q. eqb-false i j e (sym q)) ∙ sym (add-zero _)

bump_length : (b : Bool) (i : ℕ) (c : List ℕ) → length (bumped b i c) ≡ length c
unfolding bumped pick
bump_length true i c = length-set c i _
bump_length false i c = refl

bump_past : (b : Bool) (i : ℕ) (c : List ℕ) (n : ℕ) → i < n → drop n (bumped b i c) ≡ drop n c
unfolding bumped pick
bump_past false i c n h = refl
bump_past true i c n h = drop-set-lt n c i _ h

-- ---- a record whose group and place are in range
module _ (kinds : Kinds) (p : Plan) (c : List ℕ)
    (own : (k : ℕ) → 1 ≤ k → k ≤ 3 → HasCell kinds p.group k p.place) (long : cells kinds ≤ length c) where
  -- the counts after the first raise, and after the second
  abbrev once : List ℕ
  once = raised_for kinds p 1 c

  abbrev twice : List ℕ
  twice = raised_for kinds p 2 once

  abbrev hit : ℕ → ℕ → ℕ
  hit k i = pick (counts_as p k && eqb (cell_for kinds p k) i) 1 0

  pub raised_length : length (raised kinds p c) ≡ length c
  unfolding raised raised_for
  raised_length =
      bump_length (counts_as p 3) (cell_for kinds p 3) twice
      ∙ bump_length (counts_as p 2) (cell_for kinds p 2) once ∙ bump_length (counts_as p 1) (cell_for kinds p 1) c

  there : (k : ℕ) → 1 ≤ k → k ≤ 3 → cell_for kinds p k < cells kinds
  unfolding cell_for
  there k low high = cell_there kinds p.group k p.place (own k low high)

  there_1 : cell_for kinds p 1 < cells kinds
  there_1 = there 1 (omega arith) (omega arith)

  there_2 : cell_for kinds p 2 < cells kinds
  there_2 = there 2 (omega arith) (omega arith)

  there_3 : cell_for kinds p 3 < cells kinds
  there_3 = there 3 (omega arith) (omega arith)

  -- past the cells nothing is raised
  pub raised_past : drop (cells kinds) (raised kinds p c) ≡ drop (cells kinds) c
  unfolding raised raised_for
  raised_past =
      bump_past (counts_as p 3) (cell_for kinds p 3) twice (cells kinds) there_3
      ∙ bump_past (counts_as p 2) (cell_for kinds p 2) once (cells kinds) there_2
      ∙ bump_past (counts_as p 1) (cell_for kinds p 1) c (cells kinds) there_1

  three : (i : ℕ) → get_or (raised kinds p c) i 0 ≡ get_or c i 0 + hit 1 i + hit 2 i + hit 3 i
  unfolding raised raised_for
  three i =
      let l1 = bump_length (counts_as p 1) (cell_for kinds p 1) c in
      let l2 = bump_length (counts_as p 2) (cell_for kinds p 2) once in
      let a1 = bump_at (counts_as p 1) (cell_for kinds p 1) i c (omega (arith, there_1)) in
      let a2 = bump_at (counts_as p 2) (cell_for kinds p 2) i once (omega (arith, there_2)) in
      let a3 = bump_at (counts_as p 3) (cell_for kinds p 3) i twice (omega (arith, there_3)) in
      omega arith

  module _ (g place : ℕ) where
    -- the test on a cell is that on the kind, the group and the place
    hit_is : (k j : ℕ) → 1 ≤ k → k ≤ 3 → HasCell kinds g j place
        → hit k (cell_of kinds g j place)
        ≡ pick (counts_as p k && (eqb p.group g && eqb k j && eqb p.place place)) 1 0
    unfolding cell_for
    hit_is k j low high i =
        ap (λ (t : Bool). pick (counts_as p k && t) 1 0)
        (cell_test kinds p.group k p.place g j place (own k low high) i)

    hit_own : (k : ℕ) → 1 ≤ k → k ≤ 3 → HasCell kinds g k place
        → hit k (cell_of kinds g k place) ≡ pick (counts_as p k && eqb p.group g && eqb p.place place) 1 0
    hit_own k low high i =
        hit_is k k low high i
        ∙ ap (λ (t : Bool). pick t 1 0)
        (drop_middle (counts_as p k) (eqb p.group g) (eqb k k) (eqb p.place place) (eq-eqb k k refl))
      where
        drop_middle : (b x y z : Bool) → y ≡ true → b && (x && y && z) ≡ b && x && z
        drop_middle false x y z q = refl
        drop_middle true true y z q = rw q
        drop_middle true false y z q = refl

    hit_other : (k j : ℕ) → 1 ≤ k → k ≤ 3 → HasCell kinds g j place → eqb k j ≡ false
        → hit k (cell_of kinds g j place) ≡ 0
    unfolding pick
    hit_other k j low high i e =
        hit_is k j low high i
        ∙ ap (λ (t : Bool). pick t 1 0) (no_middle (counts_as p k) (eqb p.group g) (eqb k j)
        (eqb p.place place) e)
      where
        no_middle : (b x y z : Bool) → y ≡ false → b && (x && y && z) ≡ false
        no_middle b x y z q = rw (q, and-false x, and-false b)

    -- no record counts as a kind past the third
    past_third : (k : ℕ) → 4 ≤ k → counts_as p k && eqb p.group g && eqb p.place place ≡ false
    unfolding counts_as
    past_third k h = rw (ne_eqb k 1 (λ e. omega arith), ne_eqb k 2 (λ e. omega arith), ne_eqb k 3 (λ e. omega arith))

    -- none of the three is another kind's
    first_other : (k : ℕ) → HasCell kinds g k place → eqb 1 k ≡ false → hit 1 (cell_of kinds g k place) ≡ 0
    first_other k = hit_other 1 k (omega arith) (omega arith)

    second_other : (k : ℕ) → HasCell kinds g k place → eqb 2 k ≡ false → hit 2 (cell_of kinds g k place) ≡ 0
    second_other k = hit_other 2 k (omega arith) (omega arith)

    third_other : (k : ℕ) → HasCell kinds g k place → eqb 3 k ≡ false → hit 3 (cell_of kinds g k place) ≡ 0
    third_other k = hit_other 3 k (omega arith) (omega arith)

    -- what a record adds to a cell is 1 where it counts, and else 0
    abbrev Adds : ℕ → Type 0
    Adds k =
        get_or (raised kinds p c) (cell_of kinds g k place) 0
        ≡ get_or c (cell_of kinds g k place) 0 + pick (counts_as p k && eqb p.group g && eqb p.place place) 1 0

    adds_late : (k : ℕ) → 4 ≤ k → HasCell kinds g k place → Adds k
    adds_late k h i =
        let here = counts_as p k && eqb p.group g && eqb p.place place in
        let none = pick_no {A = ℕ} here 0 1 0 (past_third k h) refl in
        let one = first_other k i (ne_eqb 1 k (λ e. omega arith)) in
        let two = second_other k i (ne_eqb 2 k (λ e. omega arith)) in
        omega (arith, three (cell_of kinds g k place), none, one, two, third_other k i (ne_eqb 3 k (λ e. omega arith)))

    pub raised_at : (k : ℕ) → HasCell kinds g k place → Adds k
    raised_at zero i = absurd (omega (arith, (first_low kinds).0))
    raised_at (suc zero) i =
        let own = hit_own 1 (omega arith) (omega arith) i in
        omega (arith, three (cell_of kinds g 1 place), own, second_other 1 i refl, third_other 1 i refl)
    raised_at (suc (suc zero)) i =
        let own = hit_own 2 (omega arith) (omega arith) i in
        omega (arith, three (cell_of kinds g 2 place), own, first_other 2 i refl, third_other 2 i refl)
    raised_at (suc (suc (suc zero))) i =
        let own = hit_own 3 (omega arith) (omega arith) i in
        omega (arith, three (cell_of kinds g 3 place), own, first_other 3 i refl, second_other 3 i refl)
    raised_at (suc (suc (suc (suc k)))) i = adds_late (suc (suc (suc (suc k)))) (omega arith) i
