-- Where ladders and cells stand: place and inverse, by cases on the kinds, so that every product is by a numeral.
-- Assumes nothing.
use mathlib.Core.Path.{◌≡◌}
use mathlib.Core.Bool.{true, ◌&&◌}
use Prim.Native.Nat.{ℕ, ◌+◌, ◌*◌, ◌/◌, ◌%◌, ◌≤◌, ◌<◌}
use native.Mathlib.Omega.{arith}
use borrow.Author.Tests.{eqb-true, eq-eqb}
use lib.Dec.{eqb}
use Rattle.wire.proofs.ChoiceLaws.{and_left, and_right, and_yes, same_test}
use Rattle.rules.specs.declared.kinds.Kinds.{Kinds}
use Rattle.rules.specs.declared.kinds.Kinds.TheVariants.{One, Three, Four}
use Rattle.rules.specs.Kinds.{kinds_in, first_kind}
use Rattle.rules.proofs.KindLaws.{few}
use Rattle.places.specs.Places.{ladders, book_size, group_size, cells}
use Rattle.places.specs.Places.{ladder_of, group_at, kind_at, family_at, cell_of, HasRow, HasLadder, HasCell}

-- ---- a ladder is that of its group, kind and family
pub ladder_of_lem : (k : Kinds) (l : ℕ) → ladder_of k (group_at k l) (kind_at k l) (family_at l) ≡ l
unfolding kinds_in first_kind
ladder_of_lem One l = omega arith
ladder_of_lem Three l = omega arith
ladder_of_lem Four l = omega arith

pub group_low : (k : Kinds) (l : ℕ) → l < ladders k → group_at k l ≤ 128
unfolding kinds_in
group_low One l h = omega arith
group_low Three l h = omega arith
group_low Four l h = omega arith

pub kind_low : (k : Kinds) (l : ℕ) → kind_at k l < first_kind k + kinds_in k
unfolding kinds_in first_kind
kind_low One l = omega arith
kind_low Three l = omega arith
kind_low Four l = omega arith

pub row_at : (k : Kinds) (l : ℕ) → l < ladders k → HasRow k (group_at k l) (kind_at k l)
row_at k l h = record {
  first_group = omega arith;
  last_group = group_low k l h;
  least_kind = omega arith;
  last_kind = kind_low k l;
}

-- ---- a group, kind and family that have a ladder are its own
pub ladder_there : (k : Kinds) (g kd f : ℕ) → HasRow k g kd → f ≤ 15 → ladder_of k g kd f < ladders k
unfolding kinds_in first_kind
ladder_there One g kd f i h = omega arith
ladder_there Three g kd f i h = omega arith
ladder_there Four g kd f i h = omega arith

pub group_of : (k : Kinds) (g kd f : ℕ) → HasRow k g kd → f ≤ 15 → group_at k (ladder_of k g kd f) ≡ g
unfolding kinds_in first_kind
group_of One g kd f i h = omega arith
group_of Three g kd f i h = omega arith
group_of Four g kd f i h = omega arith

pub kind_of : (k : Kinds) (g kd f : ℕ) → HasRow k g kd → f ≤ 15 → kind_at k (ladder_of k g kd f) ≡ kd
unfolding kinds_in first_kind
kind_of One g kd f i h = omega arith
kind_of Three g kd f i h = omega arith
kind_of Four g kd f i h = omega arith

pub family_of_lem : (k : Kinds) (g kd f : ℕ) → f ≤ 15 → family_at (ladder_of k g kd f) ≡ f
family_of_lem k g kd f h = omega arith

-- ---- cells
pub cell_there : (k : Kinds) (g kd c : ℕ) → HasCell k g kd c → cell_of k g kd c < cells k
unfolding kinds_in first_kind
cell_there One g kd c i = omega arith
cell_there Three g kd c i = omega arith
cell_there Four g kd c i = omega arith

-- every cell is that of a group, a kind and a place
cell_group : (k : Kinds) (i : ℕ) → i < cells k → i / (32 * kinds_in k) + 1 ≤ 128
unfolding kinds_in first_kind
cell_group One i h = omega arith
cell_group Three i h = omega arith
cell_group Four i h = omega arith

cell_kind : (k : Kinds) (i : ℕ) → i / 32 % kinds_in k + first_kind k < first_kind k + kinds_in k
unfolding kinds_in first_kind
cell_kind One i = omega arith
cell_kind Three i = omega arith
cell_kind Four i = omega arith

pub cell_in_lem : (k : Kinds) (i : ℕ) → i < cells k
    → HasCell k (i / (32 * kinds_in k) + 1) (i / 32 % kinds_in k + first_kind k) (i % 32)
cell_in_lem k i h = record {
  row = record {
    first_group = omega arith;
    last_group = cell_group k i h;
    least_kind = omega arith;
    last_kind = cell_kind k i;
  };
  last_place = omega arith;
}

pub cell_is : (k : Kinds) (i : ℕ) → i
    ≡ cell_of k (i / (32 * kinds_in k) + 1) (i / 32 % kinds_in k + first_kind k) (i % 32)
unfolding kinds_in first_kind
cell_is One i = omega arith
cell_is Three i = omega arith
cell_is Four i = omega arith

-- no two have one cell
cell_same : (k : Kinds) (g kd c g' kd' c' : ℕ) → HasCell k g kd c → HasCell k g' kd' c'
    → cell_of k g kd c ≡ cell_of k g' kd' c' → (g ≡ g') × (kd ≡ kd') × (c ≡ c')
unfolding kinds_in first_kind
cell_same One g kd c g' kd' c' i j e = (omega arith, omega arith, omega arith)
cell_same Three g kd c g' kd' c' i j e = (omega arith, omega arith, omega arith)
cell_same Four g kd c g' kd' c' i j e = (omega arith, omega arith, omega arith)

pub cell_test : (k : Kinds) (g kd c g' kd' c' : ℕ) → HasCell k g kd c → HasCell k g' kd' c'
    → eqb (cell_of k g kd c) (cell_of k g' kd' c') ≡ eqb g g' && eqb kd kd' && eqb c c'
cell_test k g kd c g' kd' c' i j = same_test _ _ there back
  where
    there : eqb (cell_of k g kd c) (cell_of k g' kd' c') ≡ true → eqb g g' && eqb kd kd' && eqb c c' ≡ true
    there t =
        let e = cell_same k g kd c g' kd' c' i j (eqb-true _ _ t) in
        let row = and_yes (eqb g g') (eqb kd kd') (eq-eqb g g' e.0) (eq-eqb kd kd' e.1) in
        and_yes (eqb g g' && eqb kd kd') (eqb c c') row (eq-eqb c c' e.2)

    back : eqb g g' && eqb kd kd' && eqb c c' ≡ true → eqb (cell_of k g kd c) (cell_of k g' kd' c') ≡ true
    back t =
        let u = and_left (eqb g g' && eqb kd kd') (eqb c c') t in
        let a = eqb-true g g' (and_left (eqb g g') (eqb kd kd') u) in
        let b = eqb-true kd kd' (and_right (eqb g g') (eqb kd kd') u) in
        let d = eqb-true c c' (and_right (eqb g g' && eqb kd kd') (eqb c c') t) in
        let q : cell_of k g kd c ≡ cell_of k g' kd' c' = cc in
        eq-eqb _ _ q

-- a ladder's cells stand one after the other
pub ladder_cell : (k : Kinds) (l c : ℕ) → cell_of k (group_at k l) (kind_at k l) c ≡ l / 16 * 32 + c
unfolding kinds_in first_kind
ladder_cell One l c = omega arith
ladder_cell Three l c = omega arith
ladder_cell Four l c = omega arith

-- ---- a group's part of the book, and its ladders
pub part_there : (k : Kinds) (g : ℕ) → g < 128 → 16 + group_size k * g + group_size k ≤ book_size k
unfolding kinds_in
part_there One g h = omega arith
part_there Three g h = omega arith
part_there Four g h = omega arith

pub parts_there : (k : Kinds) (n : ℕ) → n ≤ 128 → 16 + group_size k * n ≤ book_size k
unfolding kinds_in
parts_there One n h = omega arith
parts_there Three n h = omega arith
parts_there Four n h = omega arith

-- ---- bounds for the code
pub ladder_few : (k : Kinds) (g kd f : ℕ) → HasLadder k g kd f → ladder_of k g kd f < 8192
ladder_few k g kd f h = omega (arith, (few k).1, ladder_there k g kd f h.row h.last_family)

-- n is what `kinds_in` gave
pub few_times : (k : Kinds) (n x : ℕ) → n ≡ kinds_in k → x * n ≤ 4 * x
unfolding kinds_in
few_times One n x e = rw e (omega arith)
few_times Three n x e = rw e (omega arith)
few_times Four n x e = rw e (omega arith)
