-- A book with one total that is not 0: what is read in it, and when it is sound. Assumes nothing.
use mathlib.Core.Path.{◌≡◌, refl, sym, ap, ◌∙◌}
use mathlib.Core.Bool.{Bool, true, false, not}
use Prim.Native.Nat.{ℕ, ◌^◌, ◌<◌, ◌≤◌, zero-le}
use native.Mathlib.Omega.{arith}
use borrow.Author.Tests.{leb-true, leb-false, eqb-true, lt-leb, eq-eqb}
use lib.Dec.{leb, eqb}
use Rattle.wire.specs.Choice.{pick}
use Rattle.wire.proofs.ChoiceLaws.{pick_yes, pick_no, pick_le}
use Rattle.calendar.specs.Dates.{real_day, day_number}
use Rattle.rules.specs.Kinds.{kinds_of}
use Rattle.places.specs.Places.{ladders, family_at}
use Rattle.book.specs.Shape.{day_shape, rulebook_of}
use Rattle.book.specs.Layout.{last_date, total_at}
use Rattle.book.specs.Sound.{most_of, sound_as, sound}
use Rattle.book.proofs.BookLaws.{real_dated, most_le, rulebook_of_book, date_of_book, total_of_book, sound_facts}
use Rattle.book.proofs.BookLaws.{sound_of_day_book}
use Rattle.demands.specs.Samples.{book_with_one}

-- the totals of such a book
abbrev pub one : (ladder total : ℕ) → ℕ → ℕ
one ladder total l = pick (eqb l ladder) total 0

-- futures and options are the families of rulebook 1
most_there : (day ladder : ℕ) → family_at ladder < 2 → most_of 1 day ladder ≡ day
unfolding most_of
most_there day ladder f = sym (pick_no _ _ _ _ (lt-leb 2 (family_at ladder) f) refl)

module _ (ladder date total : ℕ) where
  -- ---- what is read in it
  pub one_rulebook : rulebook_of (book_with_one ladder date total) ≡ 1
  unfolding book_with_one
  one_rulebook = rulebook_of_book (day_shape 1) 1 date (one ladder total)

  pub one_date : date < 2 ^ 32 → last_date (book_with_one ladder date total) ≡ date
  unfolding book_with_one
  one_date h = date_of_book (day_shape 1) 1 date (one ladder total) h

  pub one_total : total < 65536 → (l : ℕ) → l < ladders (kinds_of 1)
      → total_at (book_with_one ladder date total) l ≡ one ladder total l
  unfolding book_with_one day_shape
  one_total w l h = total_of_book (day_shape 1) 1 date (one ladder total) l h (small (eqb l ladder))
    where
      small : (t : Bool) → pick t total 0 < 65536
      small t = omega (arith, pick_le t total 0 65535 (omega arith) (omega arith))

  -- ---- it is sound where the total is not above the day number
  fits : family_at ladder < 2 → total ≤ day_number date → (l : ℕ) → l < ladders (kinds_of 1)
      → one ladder total l ≤ most_of 1 (day_number date) l
  unfolding pick
  fits f most l h = go (eqb l ladder) refl
    where
      go : (t : Bool) → eqb l ladder ≡ t → pick t total 0 ≤ most_of 1 (day_number date) l
      go true e = rw (eqb-true l ladder e, most_there (day_number date) ladder f) most
      go false e = zero-le

  pub one_sound : family_at ladder < 2 → real_day date ≡ true → date < 2 ^ 32 → leb total (day_number date) ≡ true
      → sound (book_with_one ladder date total) ≡ true
  unfolding book_with_one day_shape
  one_sound f day h few =
      sound_of_day_book 1 date (one ladder total) refl (real_dated date day) h
      (fits f (leb-true total (day_number date) few))

  -- ---- and not sound where it is
  sound_fits : ladder < ladders (kinds_of 1) → date < 2 ^ 32 → total < 65536
      → sound (book_with_one ladder date total) ≡ true → total ≤ day_number date
  unfolding pick day_shape
  sound_fits l h w e =
      let b = book_with_one ladder date total in
      let most : day_number (last_date b) ≡ day_number date = ap day_number (one_date h) in
      let here = pick_yes (eqb ladder ladder) total total 0 (eq-eqb ladder ladder refl) refl in
      let held : total_at b ladder ≡ total = one_total w ladder l ∙ sym here in
      let good : sound_as (day_shape 1) b ≡ true = ap (λ (r : ℕ). sound_as (day_shape r) b) (sym one_rulebook) ∙ e in
      let few = most_le (rulebook_of b) (day_number (last_date b)) ladder in
      omega (arith, most, held, few, (sound_facts (day_shape 1) b good).totals ladder l)

  pub one_unsound : ladder < ladders (kinds_of 1) → date < 2 ^ 32 → total < 65536 → leb total (day_number date) ≡ false
      → not (sound (book_with_one ladder date total)) ≡ true
  one_unsound l h w above = go (sound (book_with_one ladder date total)) refl
    where
      go : (t : Bool) → sound (book_with_one ladder date total) ≡ t → not t ≡ true
      go true e = absurd (omega (arith, sound_fits l h w e, leb-false total (day_number date) above))
      go false e = refl
