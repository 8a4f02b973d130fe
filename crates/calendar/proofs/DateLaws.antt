-- Laws of days: what a real day is, and that in one year the day number rises with the date. Assumes nothing.
use mathlib.Core.Path.{◌≡◌, refl, sym, ap}
use mathlib.Core.Logic.{⊎_elim}
use mathlib.Core.Bool.{Bool, true, false, ◌&&◌}
use Prim.Native.Nat.{ℕ, zero, suc, ◌+◌, ◌-◌, ◌≤◌, ◌<◌, zero-le}
use native.Mathlib.Nat.{le_of_suc-le-suc, eq-or-lt_of_le}
use native.Mathlib.Numerals.{add-one}
use native.Mathlib.Omega.{arith}
use borrow.Author.Tests.{eqb-true, eqb-false}
use lib.Dec.{eqb, lit≤}
use Rattle.wire.specs.Choice.{pick, within}
use Rattle.wire.proofs.ChoiceLaws.{pick_yes, pick_no, pick_le, bounds, and_left, and_right}
use Rattle.calendar.specs.Dates.{year, month, day, leap, month_days, real_day, days_in, day_number}

-- a real day, as facts
pub record Real (date : ℕ) : Type 0 where
  pub first_year : 2000 ≤ year date
  pub last_year : year date ≤ 2099
  pub first_month : 1 ≤ month date
  pub last_month : month date ≤ 12
  pub first_day : 1 ≤ day date
  pub last_day : day date ≤ month_days (year date) (month date)

pub real : (date : ℕ) → real_day date ≡ true → Real date
unfolding real_day
real date e =
    let years = within 2000 2099 (year date) in
    let months = within 1 12 (month date) in
    let days = within 1 (month_days (year date) (month date)) (day date) in
    let y = bounds 2000 2099 (year date) (and_left years months (and_left (years && months) days e)) in
    let m = bounds 1 12 (month date) (and_right years months (and_left (years && months) days e)) in
    let d = bounds 1 (month_days (year date) (month date)) (day date) (and_right (years && months) days e) in record {
      first_year = y.0;
      last_year = y.1;
      first_month = m.0;
      last_month = m.1;
      first_day = d.0;
      last_day = d.1;
    }

pub month_most : (y m : ℕ) → month_days y m ≤ 31
unfolding month_days
month_most y m = search (pick_le, lit≤)

pub days_more : (y k : ℕ) → days_in y (k + 1) ≡ days_in y k + month_days y (k + 1)
unfolding days_in
days_more y k = rw add-one

-- the days of fewer months are fewer
days_up : (y m n : ℕ) → m ≤ n → days_in y m ≤ days_in y n
unfolding days_in
days_up y m zero h = let e : m ≡ 0 = omega arith in rw e zero-le
days_up y m (suc n) h =
    ⊎_elim (λ (e : m ≡ suc n). rw e (omega arith))
    (λ (l : m < suc n). omega (arith, days_up y m n (le_of_suc-le-suc l)))
    (eq-or-lt_of_le h)

-- a year has at most 366 days
year_most : (y : ℕ) → days_in y 12 ≤ 366
unfolding days_in month_days pick
year_most y = omega (arith, pick_le (leap y) 29 28 29 (omega arith) (omega arith))

-- the day number of a real day, by its month and day
pub number_of : (date : ℕ) → real_day date ≡ true → day_number date ≡ days_in (year date) (month date - 1) + day date
unfolding day_number
number_of date e = sym (pick_yes _ _ _ _ e refl)

pub number_none : (date : ℕ) → real_day date ≡ false → day_number date ≡ 0
unfolding day_number
number_none date e = sym (pick_no _ _ _ _ e refl)

-- the days up to a real day are within its month
in_month : (date : ℕ) → Real date → days_in (year date) (month date - 1) + day date ≤ days_in (year date) (month date)
in_month date r =
    let e : month date ≡ month date - 1 + 1 = omega arith in
    omega (arith, days_more (year date) (month date - 1), ap (days_in (year date)) e, ap (month_days (year date)) e)

-- the day number is 1 to 366, and 0 where there is no such day
pub number_least : (date : ℕ) → real_day date ≡ true → 1 ≤ day_number date
number_least date e = omega (arith, number_of date e, (real date e).first_day)

pub number_most : (date : ℕ) → day_number date ≤ 366
number_most date = go (real_day date) refl
  where
    go : (t : Bool) → real_day date ≡ t → day_number date ≤ 366
    go true e =
        let r = real date e in
        omega (
          arith,
          number_of date e,
          in_month date r,
          days_up (year date) (month date) 12
              r.last_month,
          year_most (year date),
        )
    go false e = rw (number_none date e) zero-le

-- in one year the day number rises with the date
pub number_rises : (a b : ℕ) → real_day a ≡ true → real_day b ≡ true → year a ≡ year b → a < b
    → day_number a < day_number b
number_rises a b ea eb y h = rw (number_of a ea, number_of b eb, y) (go (eqb (month a) (month b)) refl)
  where
    last : day a ≤ month_days (year b) (month a)
    last = rw y at (real a ea).last_day

    go : (t : Bool) → eqb (month a) (month b) ≡ t → days_in (year b) (month a - 1) + day a < days_in (year b)
        (month b - 1) + day b
    go true e = let m : month a ≡ month b = eqb-true _ _ e in rw m (omega arith)
    go false e =
        let n : month a ≡ month b → ⊥ = eqb-false _ _ e in
        omega (
          arith,
          rw y at (in_month a (real a ea)),
          days_up (year b) (month a) (month b - 1)
              (omega arith),
          (real b eb).first_day,
        )

-- a later date is in the same or a later year
pub year_rises : (a b : ℕ) → a ≤ b → year a ≤ year b
year_rises a b h = omega arith
