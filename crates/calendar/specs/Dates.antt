-- 01, "Dates: real days of the Gregorian calendar, years 2000 to 2099", written as yyyymmdd.
use Rattle.std.specs.Prelude.{ℕ, zero, suc, ◌+◌, ◌-◌, ◌/◌, ◌%◌, Bool, ◌&&◌, ◌||◌, not, eqb}
use Rattle.wire.specs.Choice.{pick, within}

abbrev pub year : ℕ → ℕ
year date = date / 10000

abbrev pub month : ℕ → ℕ
month date = date / 100 % 100

abbrev pub day : ℕ → ℕ
day date = date % 100

-- a leap year of the Gregorian calendar
abbrev pub leap : ℕ → Bool
leap y = (eqb (y % 4) 0 && not (eqb (y % 100) 0)) || eqb (y % 400) 0

-- how many days month m of year y has
unfoldable pub month_days : ℕ → ℕ → ℕ
month_days y m =
    pick (eqb m 2) (pick (leap y) 29 28)
    (pick (eqb m 4 || eqb m 6 || eqb m 9 || eqb m 11) 30
    31)

-- a real day of the years 2000 to 2099
unfoldable pub real_day : ℕ → Bool
real_day date =
    within 2000 2099 (year date) && within 1 12 (month date)
    && within 1 (month_days (year date) (month date)) (day date)

-- the days of the first m months of year y
unfoldable pub days_in : ℕ → ℕ → ℕ
days_in y zero = 0
days_in y (suc m) = days_in y m + month_days y (suc m)

-- 01, "Layouts", the book: the day number of a date in its year; 0 where the number is no real day
unfoldable pub day_number : ℕ → ℕ
day_number date = pick (real_day date) (days_in (year date) (month date - 1) + day date) 0
