-- The book is that of the days written to it: a day more makes the book of one day more. Assumes nothing.
use mathlib.Core.Path.{◌≡◌, refl, sym, ap, ap₂, ◌∙◌, subst}
use mathlib.Core.Bool.{Bool, true, false, ◌&&◌}
use mathlib.Core.List.{List, [], ◌∷◌, ◌++◌}
use Prim.Native.Nat.{ℕ, ◌+◌, ◌<◌, ◌≤◌}
use native.Mathlib.Omega.{arith}
use borrow.Author.Tests.{ltb-true, ltb-false, eq-eqb, ne_eqb, lt-ltb, le-ltb}
use lib.Dec.{eqb, ltb}
use lib.ListN.{get_or}
use Rattle.wire.specs.Choice.{pick}
use Rattle.wire.specs.Bytes.{bytes}
use Rattle.wire.specs.Buffers.{rows}
use Rattle.wire.proofs.ChoiceLaws.{pick_yes, pick_no, pick_same, and_no}
use Rattle.wire.proofs.BufferLaws.{rows_cong}
use Rattle.calendar.specs.Dates.{year, real_day}
use Rattle.calendar.proofs.DateLaws.{real, year_rises}
use Rattle.rules.specs.declared.kinds.Kinds.{Kinds}
use Rattle.rules.specs.Codes.{is_rulebook}
use Rattle.rules.specs.Ladders.{rung, sanction}
use Rattle.places.specs.Places.{ladders, group_at, kind_at}
use Rattle.book.specs.declared.shape.Shape.{Shape}
use Rattle.book.specs.Shape.{rulebook_of}
use Rattle.book.specs.Layout.{last_date, total_at, head_of, book_as}
use Rattle.book.specs.Sound.{sound_as}
use Rattle.book.proofs.BookLaws.{SoundBook, sound_of_book, rulebook_of_book, date_of_book, total_of_book}
use Rattle.book.proofs.FitsLaws.{fits}
use Rattle.posting.specs.Raise.{later_year}
use Rattle.verdict.specs.Verdict.{Verdict, offends, finding, total_after, sanction_at, found_at, findings, book_after}
use Rattle.verdict.proofs.BookKept.{shut, after_is, kept_sound, kept_total}
use Rattle.years.specs.Days.{how_many, WrittenDay, offence_on, offence_days, last_on, carried, total_over, book_over}
use Rattle.years.specs.Days.{blank_as}
use Rattle.years.specs.Written.{Allowed, Written, none as no_day, more as one_more_day}
use Rattle.years.specs.Restrictions.{sanction_on, Sanctioned, none, more}
use Rattle.years.specs.Laws.{TotalsCounted, FindingsFound}

-- a book by its rulebook and its totals
pub book_cong : (shape : Shape) (r r' date : ℕ) (f g : ℕ → ℕ) → r ≡ r'
    → ((l : ℕ) → l < ladders shape.kinds → f l ≡ g l)
    → book_as shape r date f ≡ book_as shape r' date g
unfolding book_as
book_cong shape r r' date f g e same =
    ap₂ (λ (head body : List ℕ). head ++ body) (ap (λ (n : ℕ). head_of shape.letter n date) e)
    (rows_cong _ _ (ladders shape.kinds) (λ l h. ap (bytes 2) (same l h)))

-- ---- days on a book, the latest first, each later than the one before
unfoldable pub Rising : List ℕ → List WrittenDay → Type 0
Rising from [] = Unit {0}
Rising from (d ∷ days) = (last_on from days < d.date) × Rising from days

-- days of a shape and of one rulebook
pub record Ours (shape : Shape) (rulebook : ℕ) (d : WrittenDay) : Type 0 where
  pub shaped : d.verdict.shape ≡ shape
  pub ruled : d.verdict.rulebook ≡ rulebook

unfoldable pub OfBook : Shape → ℕ → List WrittenDay → Type 0
OfBook shape rulebook [] = Unit {0}
OfBook shape rulebook (d ∷ days) = Ours shape rulebook d × OfBook shape rulebook days

-- the book's own date is the earliest
earliest : (from : List ℕ) (days : List WrittenDay) → Rising from days → last_date from ≤ last_on from days
unfolding last_on Rising
earliest from [] r = omega arith
earliest from (d ∷ days) r = omega (arith, r.0, earliest from days r.1)

-- days of earlier years add nothing
earlier_none : (from : List ℕ) (y l : ℕ) (days : List WrittenDay) → Rising from days → year (last_on from days) < y
    → offence_days y l days ≡ 0
unfolding offence_days how_many last_on Rising
earlier_none from y l [] r h = refl
earlier_none from y l (d ∷ days) r h =
    let q : ◌≡◌ {A = ℕ} (pick (eqb (year d.date) y && offence_on l d) 1 0) 0 =
    sym (pick_no _ _ _ _ (and_no (eqb (year d.date) y) (offence_on l d)
    (ne_eqb (year d.date) y (λ e. omega arith))) refl) in
    omega (
      arith,
      earlier_none from y l days r.1
          (omega (arith, year_rises (last_on from days) d.date (omega (arith, r.0)))),
    )

-- nor is anything carried into a later year
carried_later : (from : List ℕ) (y l : ℕ) → year (last_date from) < y → carried from y l ≡ 0
unfolding carried
carried_later from y l h = sym (pick_yes _ _ _ _ (lt-ltb _ _ h) refl)

total_later : (from : List ℕ) (y l : ℕ) (days : List WrittenDay) → Rising from days → year (last_on from days) < y
    → total_over from y l days ≡ 0
unfolding total_over
total_later from y l days r h =
    omega (
      arith,
      earlier_none from y l days r h,
      carried_later from y l
          (omega (arith, year_rises (last_date from) (last_on from days) (earliest from days r))),
    )

-- ---- the book of the days, with what can be read from it
pub record Kept (shape : Shape) (from : List ℕ) (days : List WrittenDay) (book : List ℕ) : Type 0 where
  pub is : book ≡ book_over shape from days
  pub rulebook : rulebook_of book ≡ rulebook_of from
  pub last : last_date book ≡ last_on from days
  pub total : (l : ℕ) → l < ladders shape.kinds → total_at book l ≡ total_over from (year (last_on from days)) l days
  pub rises : Rising from days
  pub ours : OfBook shape (rulebook_of from) days
  pub sanctions : Sanctioned shape from days
  pub good : sound_as shape book ≡ true

pub kept_none : (shape : Shape) (from : List ℕ) → sound_as shape from ≡ true → Kept shape from [] from
unfolding book_over total_over carried offence_days how_many last_on Rising OfBook
kept_none shape from good = record {
  is = refl;
  rulebook = refl;
  last = refl;
  total = λ l h. omega (
    arith,
    pick_no _ _ 0 _ (le-ltb (year (last_date from)) (year (last_date from)) (omega arith))
        (refl {a = total_at from l}),
  );
  rises = tt;
  ours = tt;
  sanctions = none;
  good = good;
}

-- ---- a fresh book
module _ (shape : Shape) (rulebook : ℕ) where
  pub blank_sound : is_rulebook rulebook ≡ true → sound_as shape (blank_as shape rulebook) ≡ true
  unfolding blank_as
  blank_sound known = sound_of_book shape rulebook 0 (λ l. 0) known refl (omega arith) (λ l h. omega arith)

  pub blank_rulebook : rulebook_of (blank_as shape rulebook) ≡ rulebook
  unfolding blank_as
  blank_rulebook = rulebook_of_book shape rulebook 0 (λ l. 0)

  pub blank_date : last_date (blank_as shape rulebook) ≡ 0
  unfolding blank_as
  blank_date = date_of_book shape rulebook 0 (λ l. 0) (omega arith)

  blank_at : (l : ℕ) → l < ladders shape.kinds → total_at (blank_as shape rulebook) l ≡ 0
  unfolding blank_as
  blank_at l h = total_of_book shape rulebook 0 (λ l. 0) l h (omega arith)

  pub blank_carries : (y l : ℕ) → l < ladders shape.kinds → carried (blank_as shape rulebook) y l ≡ 0
  unfolding carried
  blank_carries y l h = ap (pick (ltb (year (last_date (blank_as shape rulebook))) y) 0) (blank_at l h) ∙ pick_same _ 0

  pub blank_total : (y l : ℕ) (days : List WrittenDay) → l < ladders shape.kinds
      → total_over (blank_as shape rulebook) y l days ≡ offence_days y l days
  unfolding total_over
  blank_total y l days h = omega (arith, blank_carries y l h)

-- ---- a day written, on a book of its own shape
module _ (from : List ℕ) (days : List WrittenDay) (d : WrittenDay) (book : List ℕ)
    (k : Kept d.verdict.shape from days book) (s : SoundBook d.verdict.shape book)
    (same : rulebook_of book ≡ d.verdict.rulebook) (day : real_day d.date ≡ true) (later : last_date book < d.date)
    (none_shut : (l : ℕ) → shut d.verdict.rulebook l ≡ true → offends d.verdict l ≡ false) where
  abbrev v : Verdict
  v = d.verdict

  abbrev date : ℕ
  date = d.date

  -- how many totals the book has
  abbrev many : ℕ
  many = ladders v.shape.kinds

  rulebook_is : v.rulebook ≡ rulebook_of from
  rulebook_is = sym same ∙ k.rulebook

  -- what is carried into the year of the day
  brought : (l : ℕ) → l < many → pick (later_year book date) 0 (total_at book l) ≡ total_over from (year date) l days
  brought l h = go (later_year book date) refl
    where
      go : (b : Bool) → later_year book date ≡ b
          → pick (later_year book date) 0 (total_at book l) ≡ total_over from (year date) l days
      go true e =
          sym (pick_yes _ _ _ _ e refl)
          ∙ sym (total_later from (year date) l days k.rises
          (omega (arith, ltb-true (year (last_date book)) (year date) e, ap year k.last)))
      go false e =
          let y : year (last_on from days) ≡ year date =
          omega (
            arith,
            ltb-false (year (last_date book)) (year date) e,
            year_rises (last_date book) date (omega (arith, later)),
            ap year k.last,
          ) in
          sym (pick_no _ _ _ _ e refl) ∙ k.total l h ∙ ap (λ (n : ℕ). total_over from n l days) y

  this_year : (y : ℕ) (b : Bool) → b ≡ eqb y y && b
  this_year y b = rw (eq-eqb y y refl)

  -- one more where the day was an offence
  one_more : (l : ℕ)
      → total_over from (year date) l days + pick (offends v l) 1 0 ≡ total_over from (year date) l (d ∷ days)
  unfolding total_over offence_days how_many offence_on
  one_more l =
      let e : ◌≡◌ {A = ℕ} (pick (offends v l) 1 0) (pick (eqb (year date) (year date) && offends v l) 1 0) =
      ap (λ (b : Bool). pick b 1 0) (this_year (year date) (offends v l)) in
      omega arith

  summed : (l : ℕ) → l < many
      → pick (later_year book date) 0 (total_at book l) + pick (offends v l) 1 0
      ≡ total_over from (year date) l (d ∷ days)
  summed l h = ap (λ (n : ℕ). n + pick (offends v l) 1 0) (brought l h) ∙ one_more l

  total_is : (l : ℕ) → l < many → total_after v date book l ≡ total_over from (year date) l (d ∷ days)
  total_is l h = after_is v date book s same day later none_shut l h ∙ summed l h

  -- the sanction in the day's finding
  byte_three : (o : Bool) (kinds : Kinds) (l s total id : ℕ)
      → get_or (pick o (finding kinds l s total id) []) 3 0 ≡ pick o s 0
  unfolding pick finding
  byte_three true kinds l s total id = refl
  byte_three false kinds l s total id = refl

  sanction_is : (l : ℕ) → l < many → get_or (found_at v date book l) 3 0 ≡ sanction_on from l d days
  unfolding found_at sanction_at sanction_on offence_on
  sanction_is l h =
      byte_three (offends v l) v.shape.kinds l _ _ _
      ∙ ap
      (λ (n : ℕ).
      pick (offends v l)
      (sanction v.rulebook (kind_at v.shape.kinds l) (rung n) (v.member (group_at v.shape.kinds l))) 0)
      (total_is l h)

  kept_own : Kept v.shape from (d ∷ days) (book_after v date book)
  unfolding book_after book_over last_on Rising OfBook
  kept_own = record {
    is = book_cong v.shape _ _ date _ _ rulebook_is total_is;
    rulebook = rulebook_of_book v.shape v.rulebook date (total_after v date book) ∙ rulebook_is;
    last = date_of_book v.shape v.rulebook date (total_after v date book)
        (omega (arith, (real date day).last_year));
    total = λ l h. kept_total v date book s same day later none_shut l h ∙ summed l h;
    rises = (omega (arith, later, k.last), k.rises);
    ours = (record { shaped = refl; ruled = rulebook_is }, k.ours);
    sanctions =
        more
        (λ l h. subst (λ (b : List ℕ). get_or (found_at v date b l) 3 0 ≡ sanction_on from l d days) k.is
        (sanction_is l h))
        k.sanctions;
    good = kept_sound v date book s same day later none_shut;
  }

-- ---- a day that a book of a shape may have
module _ {shape : Shape} {book : List ℕ} {d : WrittenDay} (a : Allowed shape book d) where
  pub sound_day : sound_as shape (book_after d.verdict d.date book) ≡ true
  sound_day =
      let f = fits shape d.verdict.rulebook d.date book a.fits in
      subst (λ (x : Shape). sound_as x (book_after d.verdict d.date book) ≡ true) a.shaped
      (kept_sound d.verdict d.date book
      (subst (λ (x : Shape). SoundBook x book) (sym a.shaped) f.facts) f.same a.real f.later a.none)

  pub kept_day : {from : List ℕ} {days : List WrittenDay} → Kept shape from days book
      → Kept shape from (d ∷ days) (book_after d.verdict d.date book)
  kept_day {from} {days} k =
      let f = fits shape d.verdict.rulebook d.date book a.fits in
      subst (λ (x : Shape). Kept x from (d ∷ days) (book_after d.verdict d.date book)) a.shaped
      (kept_own from days d book (subst (λ (x : Shape). Kept x from days book) (sym a.shaped) k)
      (subst (λ (x : Shape). SoundBook x book) (sym a.shaped) f.facts) f.same a.real f.later a.none)

-- and any days
pub kept : {shape : Shape} {from book : List ℕ} {days : List WrittenDay} → Written shape from days book
    → Kept shape from days book
kept {shape} {from} (no_day good) = kept_none shape from good
kept (one_more_day a w) = kept_day a (kept w)

pub totals_counted : TotalsCounted
totals_counted shape from book days w l h =
    (kept w).total l h ∙ ap (λ (d : ℕ). total_over from (year d) l days) (sym (kept w).last)

pub findings_found : FindingsFound
unfolding findings
findings_found shape from book days w d own =
    ap₂ (λ (x : Shape) (b : List ℕ). rows (found_at d.verdict d.date b) (ladders x.kinds)) own (kept w).is
