-- 01, "Layouts": sizes, and where ladders and cells stand, by the kinds that are kept. With three kinds these are the
-- paper's numbers: 6,144 totals, a book of 12,304 bytes of which one group owns 96, and 12,288 counts.
use Rattle.std.specs.Prelude.{ℕ, ◌+◌, ◌-◌, ◌*◌, ◌/◌, ◌%◌, ◌≤◌, ◌<◌}
use Rattle.rules.specs.declared.kinds.Kinds.{Kinds}
use Rattle.rules.specs.Kinds.{kinds_in, first_kind}

-- one ladder for each of 128 groups, each kind and each of 16 families, numbered from 0 in the order of the totals
abbrev pub ladders : Kinds → ℕ
ladders kinds = 2048 * kinds_in kinds

-- those of one group
abbrev pub group_ladders : Kinds → ℕ
group_ladders kinds = 16 * kinds_in kinds

-- 16 bytes, "then 6,144 totals of 16 bits"
abbrev pub book_size : Kinds → ℕ
book_size kinds = 16 + 2 * ladders kinds

-- "so one group owns 96 bytes"
abbrev pub group_size : Kinds → ℕ
group_size kinds = 2 * group_ladders kinds

-- "Counts": one for each group, each kind and each of 32 contracts
abbrev pub cells : Kinds → ℕ
cells kinds = 4096 * kinds_in kinds

-- "The total of group g, kind k, family f begins at 16 + 2 × (((g-1) × 3 + (k-1)) × 16 + f)"
abbrev pub ladder_of : Kinds → (group kind family : ℕ) → ℕ
ladder_of kinds group kind family = ((group - 1) * kinds_in kinds + (kind - first_kind kinds)) * 16 + family

-- a ladder's group, kind and family
abbrev pub group_at : Kinds → ℕ → ℕ
group_at kinds ladder = ladder / (16 * kinds_in kinds) + 1

abbrev pub kind_at : Kinds → ℕ → ℕ
kind_at kinds ladder = ladder / 16 % kinds_in kinds + first_kind kinds

abbrev pub family_at : ℕ → ℕ
family_at ladder = ladder % 16

-- "Group g, kind k, contract at place c (from 0) is number ((g-1) × 3 + (k-1)) × 32 + c"
abbrev pub cell_of : Kinds → (group kind place : ℕ) → ℕ
cell_of kinds group kind place = ((group - 1) * kinds_in kinds + (kind - first_kind kinds)) * 32 + place

-- a group, a kind and a family that have a ladder; a group, a kind and a contract's place that have a cell
pub record HasRow (kinds : Kinds) (group kind : ℕ) : Type 0 where
  pub first_group : 1 ≤ group
  pub last_group : group ≤ 128
  pub least_kind : first_kind kinds ≤ kind
  pub last_kind : kind < first_kind kinds + kinds_in kinds

pub record HasLadder (kinds : Kinds) (group kind family : ℕ) : Type 0 where
  pub row : HasRow kinds group kind
  pub last_family : family ≤ 15

pub record HasCell (kinds : Kinds) (group kind place : ℕ) : Type 0 where
  pub row : HasRow kinds group kind
  pub last_place : place < 32
