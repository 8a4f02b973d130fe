-- Laws of the book raised group by group: a turn of the loop that lends each group's part, and the whole book.
-- Assumes nothing.
use mathlib.Core.Path.{◌≡◌, refl, sym, ap, ap₂, ◌∙◌}
use mathlib.Core.Bool.{Bool}
use mathlib.Core.List.{List}
use Prim.Native.Nat.{ℕ, ◌+◌, ◌-◌, ◌*◌, ◌/◌, ◌<◌, ◌≤◌}
use native.Mathlib.Nat.{mul_assoc}
use native.Mathlib.Omega.{arith}
use borrow.Rule.Slice.PartMut.{put_mid}
use lib.ListN.{length, take, drop, length-take, length-drop}
use Rattle.wire.specs.Bytes.{le, bytes}
use Rattle.wire.specs.Buffers.{put, rows}
use Rattle.wire.proofs.ByteLaws.{bytes_length, le_take, le_drop}
use Rattle.wire.proofs.BufferLaws.{then_row, rows_cong, rows_length, rows_rows, le_put_after, length_put, put_whole}
use Rattle.rules.specs.declared.kinds.Kinds.{Kinds}
use Rattle.rules.specs.Kinds.{kinds_in}
use Rattle.places.specs.Places.{book_size}
use Rattle.book.specs.Layout.{total_at}
use Rattle.posting.specs.Raise.{next_total, hit_at, raised_part}
use Rattle.posting.proofs.WriteLaws.{mid_put}
use Rattle.places.proofs.LadderLaws.{part_there, parts_there}
use Rattle.verdict.specs.Way.{total_bytes}

-- the totals of a group's ladders, `own` of them
doubled : (own g j : ℕ) → 16 + 2 * own * g + 2 * j ≡ 16 + 2 * (own * g + j)
doubled own g j = let q : 2 * own * g ≡ 2 * (own * g) = mul_assoc 2 own g in omega arith

-- where n is the number of kinds: a group's part is in the book, and so are all parts up to a group
part_fits : (kinds : Kinds) (n g : ℕ) → n ≡ kinds_in kinds → g < 128
    → 16 + 2 * (16 * n) * g + 2 * (16 * n) ≤ book_size kinds
part_fits kinds n g e h = rw e (part_there kinds g h)

parts_fit : (kinds : Kinds) (n g : ℕ) → n ≡ kinds_in kinds → g ≤ 128 → 16 + 2 * (16 * n) * g ≤ book_size kinds
parts_fit kinds n g e h = rw e (parts_there kinds g h)

-- the same in a book of that size, for a group and up to the next
pub next_fits : (kinds : Kinds) (n g size : ℕ) → n ≡ kinds_in kinds → g < 128 → size ≡ book_size kinds
    → (16 + 2 * (16 * n) * g + 2 * (16 * n) ≤ size) × (16 + 2 * (16 * n) * (g + 1) ≤ size)
next_fits kinds n g size e h q =
    (rw q (part_fits kinds n g e h), rw q (parts_fit kinds n (g + 1) e (omega arith)))

module _ (own : ℕ) (later : Bool) (places book : List ℕ) (contracts : ℕ) where
  -- the bytes of one group's totals after the day
  abbrev pub group_bytes : ℕ → List ℕ
  group_bytes g = rows (λ j. total_bytes later places book contracts (own * g + j)) own

  pub row_length : (l : ℕ) → length (total_bytes later places book contracts l) ≡ 2
  unfolding total_bytes
  row_length l = bytes_length 2 _

  group_length : (g : ℕ) → length (group_bytes g) ≡ 2 * own
  group_length g = rows_length (λ j. total_bytes later places book contracts (own * g + j)) 2
      (λ j. row_length (own * g + j)) own

  all_length : (g : ℕ) → length (rows group_bytes g) ≡ 2 * own * g
  all_length g = rows_length group_bytes (2 * own) group_length g

  pub raised_length : (n : ℕ) → 16 + 2 * own * n ≤ length book
      → length (put book 16 (rows group_bytes n)) ≡ length book
  raised_length n h = length_put book 16 (rows group_bytes n) (rw all_length (omega arith))

  -- a group's part of the book, while the groups before it are raised
  module _ (b : List ℕ) (g : ℕ) (fits : 16 + 2 * own * g + 2 * own ≤ length book) (l : length b ≡ length book)
      (e : b ≡ put book 16 (rows group_bytes g)) where
    abbrev begins : ℕ
    begins = 16 + 2 * own * g

    abbrev part : List ℕ
    part = take (2 * own) (drop begins b)

    part_length : length part ≡ 2 * own
    part_length = omega (arith, length-take (2 * own) (drop begins b), length-drop begins b)

    total_same : (j : ℕ) → j < own → le 2 part (2 * j) ≡ total_at book (own * g + j)
    total_same j k =
        le_take 2 (2 * own) (drop begins b) (2 * j) (omega arith) ∙ le_drop 2 begins b (2 * j)
        ∙ ap₂ (le 2) e (doubled own g j)
        ∙ le_put_after book 16 (rows group_bytes g) (rw all_length (omega arith)) 2 (16 + 2 * (own * g + j))
        (rw all_length (omega (arith, doubled own g j)))

    part_raised : raised_part part later places (own * g) contracts ≡ group_bytes g
    unfolding raised_part total_bytes
    part_raised =
        let n : length part / 2 ≡ own = omega (arith, part_length) in
        ap (λ k. put part 0 (rows row k)) n
        ∙ put_whole part (rows row own) (rows_length row 2 (λ j. bytes_length 2 _) own ∙ sym part_length)
        ∙ rows_cong row (λ j. total_bytes later places book contracts (own * g + j)) own
        (λ j k. ap (λ total. bytes 2 (next_total later (hit_at places contracts (own * g + j)) total)) (total_same j k))
      where
        row : ℕ → List ℕ
        row j = bytes 2 (next_total later (hit_at places contracts (own * g + j)) (le 2 part (2 * j)))

    -- a turn of the loop over the groups: the part that was lent comes back as p
    pub group_turn : (p : List ℕ) → p ≡ raised_part (take (begins + 2 * own - begins) (drop begins b)) later places
        (own * g) contracts
        → put_mid begins (begins + 2 * own - begins) b p ≡ put book 16 (rows group_bytes (g + 1))
    group_turn p q =
        let size : begins + 2 * own - begins ≡ 2 * own = omega arith in
        let got : p ≡ group_bytes g = rw size at q ∙ part_raised in
        rw size
        (then_row group_bytes (2 * own) group_length book b _ 16 begins g (omega arith) refl e
        (mid_put b p begins (2 * own) (ap length got ∙ group_length g) ∙ ap (put b begins) got))

    -- and the book is as long as before
    pub group_again : (p : List ℕ)
        → p ≡ raised_part (take (begins + 2 * own - begins) (drop begins b)) later places (own * g) contracts
        → 16 + 2 * own * (g + 1) ≤ length book
        → (length (put_mid begins (begins + 2 * own - begins) b p) ≡ length book)
        × (put_mid begins (begins + 2 * own - begins) b p ≡ put book 16 (rows group_bytes (g + 1)))
    group_again p q h = let turn = group_turn p q in (ap length turn ∙ raised_length (g + 1) h, turn)

  -- all groups' bytes are all ladders'
  pub all_groups : (n : ℕ) → own * 128 ≡ n → rows group_bytes 128 ≡ rows (total_bytes later places book contracts) n
  all_groups n e = rows_rows (total_bytes later places book contracts) own 128
      ∙ ap (rows (total_bytes later places book contracts)) e
