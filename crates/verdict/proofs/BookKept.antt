-- The book after a day is sound, and no total passes 16 bits. Assumes nothing.
use mathlib.Core.Path.{◌≡◌, refl, sym, ◌∙◌}
use mathlib.Core.Logic.{◌⊎◌, inl, inr}
use mathlib.Core.Bool.{Bool, true, false, ◌&&◌}
use mathlib.Core.List.{List}
use Prim.Native.Nat.{ℕ, ◌+◌, ◌<◌, ◌≤◌}
use native.Mathlib.Omega.{arith}
use borrow.Author.Tests.{ltb-false}
use lib.Dec.{leb, eqb}
use Rattle.wire.specs.Choice.{pick}
use Rattle.wire.proofs.ChoiceLaws.{pick_yes, pick_no, pick_le}
use Rattle.calendar.specs.Dates.{year, real_day, day_number}
use Rattle.calendar.proofs.DateLaws.{real, number_least, number_most, number_rises}
use Rattle.places.specs.Places.{ladders, family_at}
use Rattle.book.specs.Shape.{rulebook_of}
use Rattle.book.specs.Layout.{last_date, total_at}
use Rattle.posting.specs.Raise.{later_year, next_total}
use Rattle.book.specs.Sound.{most_of, sound_as}
use Rattle.book.proofs.BookLaws.{SoundBook, sound_of_book, total_of_book, most_le, real_dated, dated_cases}
use Rattle.verdict.specs.Verdict.{Verdict, offends, total_after, book_after}

-- a ladder that must stay 0: rulebook 1, families 2 to 15
abbrev pub shut : ℕ → ℕ → Bool
shut rulebook l = eqb rulebook 1 && leb 2 (family_at l)

most_none : (r d l : ℕ) → shut r l ≡ true → most_of r d l ≡ 0
unfolding most_of
most_none r d l e = sym (pick_yes _ _ _ _ e refl)

most_day : (r d l : ℕ) → shut r l ≡ false → most_of r d l ≡ d
unfolding most_of
most_day r d l e = sym (pick_no _ _ _ _ e refl)

-- ---- a day of a date later than a sound book's, with the book's rulebook, and no offence on a ladder that must stay
-- 0
module _ (v : Verdict) (date : ℕ) (book : List ℕ) (s : SoundBook v.shape book)
    (same : rulebook_of book ≡ v.rulebook)
    (day : real_day date ≡ true) (later : last_date book < date) (none : (l : ℕ) → shut v.rulebook l ≡ true
    → offends v l ≡ false) where
  abbrev pub summed : ℕ → ℕ
  summed l = pick (later_year book date) 0 (total_at book l) + pick (offends v l) 1 0

  -- what is carried leaves room for one more
  carried : (l : ℕ) → l < ladders v.shape.kinds
      → pick (later_year book date) 0 (total_at book l) + 1 ≤ day_number date
  carried l h = go (later_year book date) refl
    where
      rises : year (last_date book) ≡ year date → (last_date book ≡ 0) ⊎ (real_day (last_date book) ≡ true)
          → day_number (last_date book) < day_number date
      rises y (inl z) = absurd (omega (arith, (real date day).first_year))
      rises y (inr r) = number_rises (last_date book) date r day y later

      go : (b : Bool) → later_year book date ≡ b → pick (later_year book date) 0 (total_at book l) + 1 ≤ day_number date
      go true e =
          let q : pick (later_year book date) 0 (total_at book l) ≡ 0 = sym (pick_yes _ _ _ _ e refl) in
          omega (arith, number_least date day)
      go false e =
          let q : pick (later_year book date) 0 (total_at book l) ≡ total_at book l = sym (pick_no _ _ _ _ e refl) in
          let y : year (last_date book) ≡ year date = omega (arith, ltb-false (year (last_date book)) (year date) e) in
          omega (
            arith,
            rises y (dated_cases (last_date book) s.date),
            s.totals l h,
            most_le (rulebook_of book)
                (day_number (last_date book)) l,
          )

  summed_most : (l : ℕ) → l < ladders v.shape.kinds → summed l ≤ most_of v.rulebook (day_number date) l
  summed_most l h = go (shut v.rulebook l) refl
    where
      go : (b : Bool) → shut v.rulebook l ≡ b → summed l ≤ most_of v.rulebook (day_number date) l
      go true e =
          let z : ◌≡◌ {A = ℕ} (pick (offends v l) 1 0) 0 = sym (pick_no _ _ _ _ (none l e) refl) in
          let n : most_of (rulebook_of book) (day_number (last_date book)) l ≡ 0 =
          rw same (most_none v.rulebook (day_number (last_date book)) l e) in
          let m = s.totals l h in
          omega (arith, pick_le (later_year book date) 0 (total_at book l) 0 (omega arith) (omega arith))
      go false e =
          omega (
            arith,
            carried l h,
            pick_le (offends v l) 1 0 1 (omega arith) (omega arith),
            most_day v.rulebook
                (day_number date) l e,
          )

  pub after_is : (l : ℕ) → l < ladders v.shape.kinds → total_after v date book l ≡ summed l
  unfolding total_after next_total
  after_is l h = omega (arith, summed_most l h, most_le v.rulebook (day_number date) l, number_most date)

  pub kept_sound : sound_as v.shape (book_after v date book) ≡ true
  unfolding book_after
  kept_sound =
      sound_of_book v.shape v.rulebook date (total_after v date book) (rw (← same) s.known)
      (real_dated date day) (omega (arith, (real date day).last_year)) (λ l h. rw (after_is l h) (summed_most l h))

  pub kept_total : (l : ℕ) → l < ladders v.shape.kinds → total_at (book_after v date book) l ≡ summed l
  unfolding book_after
  kept_total l h =
      total_of_book v.shape v.rulebook date (total_after v date book) l h
      (omega (arith, after_is l h, summed_most l h, most_le v.rulebook (day_number date) l, number_most date))
      ∙ after_is l h
