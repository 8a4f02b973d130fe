-- 01, "Layouts": the counts that are lent, a cell for each group, kind and contract's place (places specs/Places).
use Rattle.std.specs.Prelude.{ℕ, ◌+◌, Bool, ◌&&◌, ◌||◌, List, leb, ltb, eqb, get_or, set}
use Rattle.wire.specs.Choice.{pick}
use Rattle.rules.specs.declared.kinds.Kinds.{Kinds}
use Rattle.places.specs.Places.{cell_of}
use Rattle.counts.specs.declared.weigh.Plan.{Plan}
use Rattle.counts.specs.Counting.{counts_as}

-- the cell of a record's group and contract, for a kind
unfoldable pub cell_for : Kinds → Plan → ℕ → ℕ
cell_for kinds p kind = cell_of kinds p.group kind p.place

-- "A cell is changed when it stands above the number of records taken; taking looks at the cells it would raise"
unfoldable pub cell_changed : Kinds → (taken : ℕ) → Plan → List ℕ → ℕ → Bool
cell_changed kinds taken p c kind = counts_as p kind && ltb taken (get_or c (cell_for kinds p kind) 0)

unfoldable pub cells_changed : Kinds → (taken : ℕ) → Plan → List ℕ → Bool
cells_changed kinds taken p c =
    cell_changed kinds taken p c 1 || cell_changed kinds taken p c 2 || cell_changed kinds taken p c 3

-- one more in cell i, where the test holds
unfoldable pub bumped : Bool → ℕ → List ℕ → List ℕ
bumped test i c = pick test (set c i (get_or c i 0 + 1)) c

unfoldable pub raised_for : Kinds → Plan → ℕ → List ℕ → List ℕ
raised_for kinds p kind c = bumped (counts_as p kind) (cell_for kinds p kind) c

-- the counts after a record: one more for each kind as which it counts
unfoldable pub raised : Kinds → Plan → List ℕ → List ℕ
raised kinds p c = raised_for kinds p 3 (raised_for kinds p 2 (raised_for kinds p 1 c))

-- "14: 1,000,000 records or more already taken"; "19: changed since opening", of a cell
unfoldable pub plan_fault : Kinds → (taken : ℕ) → Plan → List ℕ → ℕ
plan_fault kinds taken p c =
    pick (leb 1000000 taken) 14
    (pick (cells_changed kinds taken p c) 19
    0)

-- the counts after it: raised, or by a refusal as they were
abbrev pub counts_after : Kinds → (taken : ℕ) → Plan → List ℕ → List ℕ
counts_after kinds taken p c = pick (eqb (plan_fault kinds taken p c) 0) (raised kinds p c) c
