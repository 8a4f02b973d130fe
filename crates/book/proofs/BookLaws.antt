-- A book that is written and read again; when it is sound, and what a sound book is. Assumes nothing.
use mathlib.Core.Path.{◌≡◌, refl, ap, ap₂, ◌∙◌}
use mathlib.Core.Logic.{◌⊎◌, inl, inr}
use mathlib.Core.Bool.{Bool, true, false, ◌&&◌, ◌||◌}
use mathlib.Core.List.{List, ◌++◌}
use Prim.Native.Nat.{ℕ, ◌+◌, ◌*◌, ◌^◌, ◌<◌, ◌≤◌, zero-le}
use native.Mathlib.Nat.{zero-add, le_trans}
use native.Mathlib.Omega.{arith}
use borrow.Author.Tests.{leb-true, eqb-true, le-leb, eq-eqb}
use lib.Dec.{leb, eqb}
use lib.ListN.{length, get_or, length-append}
use lib.Seq.{get_or-append-add}
use Rattle.wire.specs.Bytes.{le, bytes}
use Rattle.wire.specs.Buffers.{rows}
use Rattle.wire.proofs.ChoiceLaws.{pick_le, and_left, and_right}
use Rattle.wire.proofs.BelowLaws.{every_all, every_at}
use Rattle.wire.proofs.ByteLaws.{bytes_length, le_bytes, le_cong}
use Rattle.wire.proofs.BufferLaws.{rows_length, rows_at}
use Rattle.calendar.specs.Dates.{real_day, day_number}
use Rattle.calendar.proofs.DateLaws.{number_most}
use Rattle.rules.specs.Codes.{is_rulebook}
use Rattle.rules.specs.Kinds.{kinds_of}
use Rattle.book.specs.declared.shape.Shape.{Shape}
use Rattle.places.specs.Places.{ladders, book_size}
use Rattle.book.specs.Shape.{day_shape, rulebook_of, shape_of}
use Rattle.book.specs.Layout.{head_of, book_as, book_of, last_date, total_at}
use Rattle.book.specs.Sound.{mark_good, head_good, most_of, totals_good, sound_as, sound}

pub head_length : (letter rulebook date : ℕ) → length (head_of letter rulebook date) ≡ 16
unfolding head_of bytes
head_length letter rulebook date = refl

-- the last date of a book: none, or a real day
abbrev pub dated : ℕ → Bool
dated date = eqb date 0 || real_day date

pub real_dated : (date : ℕ) → real_day date ≡ true → dated date ≡ true
real_dated date e = go (eqb date 0)
  where
    go : (t : Bool) → t || real_day date ≡ true
    go true = refl
    go false = e

pub dated_cases : (date : ℕ) → dated date ≡ true → (date ≡ 0) ⊎ (real_day date ≡ true)
dated_cases date e = go (eqb date 0) refl e
  where
    go : (t : Bool) → eqb date 0 ≡ t → t || real_day date ≡ true → (date ≡ 0) ⊎ (real_day date ≡ true)
    go true p e = inl (eqb-true date 0 p)
    go false p e = inr e

pub most_le : (rulebook day l : ℕ) → most_of rulebook day l ≤ day
unfolding most_of
most_le rulebook day l = pick_le _ 0 day day zero-le (omega arith)

-- after the length and the head, the totals decide
right_head : (shape : Shape) (b : List ℕ) → length b ≡ book_size shape.kinds → head_good shape.letter b ≡ true
    → totals_good shape.kinds b (rulebook_of b) (day_number (last_date b)) ≡ true → sound_as shape b ≡ true
unfolding sound_as
right_head shape b l e t = rw (eq-eqb (length b) (book_size shape.kinds) l, e) t

-- ---- a book that is written
module _ (shape : Shape) (rulebook date : ℕ) (total : ℕ → ℕ) where
  -- how many totals, the head, and the totals
  abbrev many : ℕ
  many = ladders shape.kinds

  abbrev front : List ℕ
  front = head_of shape.letter rulebook date

  abbrev body : List ℕ
  body = rows (λ l. bytes 2 (total l)) many

  pub book_length : length (book_as shape rulebook date total) ≡ book_size shape.kinds
  unfolding book_as
  book_length =
      length-append front body
      ∙ ap₂ (λ (a b : ℕ). a + b) (head_length shape.letter rulebook date)
      (rows_length (λ l. bytes 2 (total l)) 2 (λ l. bytes_length 2 (total l)) many)

  pub rulebook_of_book : rulebook_of (book_as shape rulebook date total) ≡ rulebook
  unfolding book_as head_of
  rulebook_of_book = refl

  pub date_of_book : date < 2 ^ 32 → last_date (book_as shape rulebook date total) ≡ date
  unfolding book_as head_of bytes le
  date_of_book h = omega arith

  pub total_of_book : (l : ℕ) → l < ladders shape.kinds → total l < 65536
      → total_at (book_as shape rulebook date total) l ≡ total l
  unfolding book_as
  total_of_book l h w =
      le_cong 2 (book_as shape rulebook date total) (bytes 2 (total l)) (16 + 2 * l) 0 (λ k m. rw zero-add (byte k m))
      ∙ le_bytes 2 (total l) w
    where
      byte : (k : ℕ) → k < 2 → get_or (front ++ body) (16 + 2 * l + k) 0 ≡ get_or (bytes 2 (total l)) k 0
      byte k m =
          let n : length front ≡ 16 = head_length shape.letter rulebook date in
          let e : 16 + 2 * l + k ≡ length front + (2 * l + k) = omega arith in
          rw e (get_or-append-add front body (2 * l + k) 0)
          ∙ rows_at (λ j. bytes 2 (total j)) 2 (λ j. bytes_length 2 (total j)) many l k h m

  version : le 2 (book_as shape rulebook date total) 4 ≡ 1
  unfolding book_as head_of bytes le
  version = refl

  spare : (le 2 (book_as shape rulebook date total) 10 ≡ 0) × (le 4 (book_as shape rulebook date total) 12 ≡ 0)
  unfolding book_as head_of bytes le
  spare = (refl, refl)

  marked : mark_good shape.letter (book_as shape rulebook date total) ≡ true
  unfolding book_as head_of
  marked = eq-eqb shape.letter shape.letter refl

  pub head_of_book : is_rulebook rulebook ≡ true → dated date ≡ true → date < 2 ^ 32
      → head_good shape.letter (book_as shape rulebook date total) ≡ true
  unfolding head_good
  head_of_book known day h = rw (marked, rulebook_of_book, known, version, spare.0, spare.1, date_of_book h) day

  totals_of_book : (day : ℕ) → day ≤ 366 → ((l : ℕ) → l < ladders shape.kinds → total l ≤ most_of rulebook day l)
      → totals_good shape.kinds (book_as shape rulebook date total) rulebook day ≡ true
  unfolding totals_good
  totals_of_book day few most =
      every_all _ many
      (λ l h.
      let m = most l h in
      let d = most_le rulebook day l in
      le-leb (total_at (book_as shape rulebook date total) l) (most_of rulebook day l)
      (rw (total_of_book l h (omega arith)) m))

  pub sound_of_book : is_rulebook rulebook ≡ true → dated date ≡ true → date < 2 ^ 32
      → ((l : ℕ) → l < ladders shape.kinds → total l ≤ most_of rulebook (day_number date) l)
      → sound_as shape (book_as shape rulebook date total) ≡ true
  sound_of_book known day h most =
      right_head shape (book_as shape rulebook date total) book_length (head_of_book known day h)
      (ap₂ (totals_good shape.kinds (book_as shape rulebook date total)) rulebook_of_book
      (ap day_number (date_of_book h))
      ∙ totals_of_book (day_number date) (number_most date) most)

-- ---- the book of a rulebook's offences
pub day_kinds : (rulebook : ℕ) → (day_shape rulebook).kinds ≡ kinds_of rulebook
unfolding day_shape
day_kinds rulebook = refl

module _ (rulebook date : ℕ) (total : ℕ → ℕ) where
  pub shape_of_book : shape_of (book_of rulebook date total) ≡ day_shape rulebook
  shape_of_book = ap day_shape (rulebook_of_book (day_shape rulebook) rulebook date total)

  pub sound_of_day_book : is_rulebook rulebook ≡ true → dated date ≡ true → date < 2 ^ 32
      → ((l : ℕ) → l < ladders (day_shape rulebook).kinds → total l ≤ most_of rulebook (day_number date) l)
      → sound (book_of rulebook date total) ≡ true
  sound_of_day_book known day h most =
      ap (λ (s : Shape). sound_as s (book_of rulebook date total)) shape_of_book
      ∙ sound_of_book (day_shape rulebook) rulebook date total known day h most

-- a fresh book is sound
pub fresh_sound : (rulebook : ℕ) → is_rulebook rulebook ≡ true → sound (book_of rulebook 0 (λ l. 0)) ≡ true
fresh_sound rulebook known = sound_of_day_book rulebook 0 (λ l. 0) known refl (omega arith) (λ l h. zero-le)

-- ---- a sound book
pub record SoundBook (shape : Shape) (b : List ℕ) : Type 0 where
  pub long : length b ≡ book_size shape.kinds
  pub known : is_rulebook (rulebook_of b) ≡ true
  pub date : dated (last_date b) ≡ true
  pub totals : (l : ℕ) → l < ladders shape.kinds → total_at b l ≤ most_of (rulebook_of b) (day_number (last_date b)) l

pub sound_facts : (shape : Shape) (b : List ℕ) → sound_as shape b ≡ true → SoundBook shape b
unfolding sound_as head_good totals_good
sound_facts shape b e =
    let m = mark_good shape.letter b in
    let r = is_rulebook (rulebook_of b) in
    let v = eqb (le 2 b 4) 1 in
    let y = eqb (le 2 b 10) 0 in
    let z = eqb (le 4 b 12) 0 in
    let d = dated (last_date b) in
    let n = eqb (length b) (book_size shape.kinds) in
    let top = head_good shape.letter b in
    let all = totals_good shape.kinds b (rulebook_of b) (day_number (last_date b)) in
    let front = and_left (n && top) all e in
    let head = and_right n top front in
    let fixed = and_left (m && r && v && y && z) d head in
    let three = and_left (m && r && v) y (and_left (m && r && v && y) z fixed) in record {
      long = eqb-true (length b) (book_size shape.kinds) (and_left n top front);
      known = and_right m r (and_left (m && r) v three);
      date = and_right (m && r && v && y && z) d head;
      totals =
          λ l h.
          leb-true _ _
          (every_at (λ k. leb (total_at b k) (most_of (rulebook_of b) (day_number (last_date b)) k))
          (ladders shape.kinds) l (and_right (n && top) all e) h);
    }
