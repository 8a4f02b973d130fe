-- What holds of days written to a book, for a book of any shape, as one record: a function of src/lib.rt has it for
-- its contract, so that a theorem that goes fails the gate.
use Rattle.std.specs.Prelude.{◌≡◌, Bool, true, ◌||◌, List, ℕ, ◌+◌, ◌≤◌, ◌<◌, eqb}
use Rattle.wire.specs.Below.{count}
use Rattle.calendar.specs.Dates.{year}
use Rattle.rules.specs.declared.kinds.Kinds.TheVariants.{One}
use Rattle.rules.specs.Codes.{is_rulebook}
use Rattle.rules.specs.Kinds.{kinds_in, first_kind}
use Rattle.rules.specs.Ladders.{rung}
use Rattle.places.specs.Places.{ladders, kind_at}
use Rattle.book.specs.declared.shape.Shape.{Shape}
use Rattle.book.specs.Shape.{rulebook_of}
use Rattle.book.specs.Layout.{last_date, total_at}
use Rattle.book.specs.Sound.{sound_as}
use Rattle.verdict.specs.Verdict.{Verdict, found_count, findings}
use Rattle.years.specs.Days.{WrittenDay, offence_days, carried, total_over, book_over, found_over, blank_as}
use Rattle.years.specs.Written.{Written}
use Rattle.years.specs.Restrictions.{restrictions, ByRung, Sanctioned}
use Rattle.years.specs.Listed.{Lists}
use Rattle.years.specs.Joined.{Two, SameDays, YearJoined}

-- "Ending writes the book (totals, last date)": it stays sound, and as bytes it is that of the days
abbrev pub StaysSound : Type 0
StaysSound = (shape : Shape) (from book : List ℕ) (days : List WrittenDay) → Written shape from days book
    → sound_as shape book ≡ true

abbrev pub BookOfDays : Type 0
BookOfDays = (shape : Shape) (from book : List ℕ) (days : List WrittenDay) → Written shape from days book
    → book ≡ book_over shape from days

-- each total is what was carried into the year, and that year's days that were an offence
abbrev pub TotalsCounted : Type 0
TotalsCounted = (shape : Shape) (from book : List ℕ) (days : List WrittenDay) → Written shape from days book
    → (ladder : ℕ) → ladder < ladders shape.kinds
    → total_at book ladder ≡ total_over from (year (last_date book)) ladder days

-- from a fresh book nothing is carried
abbrev pub BlankCarriesNothing : Type 0
BlankCarriesNothing = (shape : Shape) (rulebook y ladder : ℕ) → ladder < ladders shape.kinds
    → carried (blank_as shape rulebook) y ladder ≡ 0

-- the findings of the next day, as bytes, are those on the book of the days
abbrev pub FindingsFound : Type 0
FindingsFound = (shape : Shape) (from book : List ℕ) (days : List WrittenDay) → Written shape from days book
    → (d : WrittenDay) → d.verdict.shape ≡ shape
    → findings d.verdict d.date book ≡ found_over shape from d days

-- the sanctions in the findings are those of the totals
abbrev pub SanctionsFound : Type 0
SanctionsFound = (shape : Shape) (from book : List ℕ) (days : List WrittenDay) → Written shape from days book
    → Sanctioned shape from days

-- "rung 3 is 3 (no opening, at least one month)", and with a member 5; of K4's kind 5, rungs 2 and 3 are 7 and 8
abbrev pub ThirdRung : Type 0
ThirdRung = (shape : Shape) (rulebook : ℕ) → is_rulebook rulebook ≡ true → first_kind shape.kinds ≡ 1
    → kinds_in shape.kinds ≤ 3 → ByRung shape rulebook (λ kind rung'. eqb rung' 3)

abbrev pub LimitRungs : Type 0
LimitRungs = (shape : Shape) (rulebook : ℕ) → is_rulebook rulebook ≡ true → shape.kinds ≡ One
    → ByRung shape rulebook (λ kind rung'. eqb rung' 2 || eqb rung' 3)

-- so a year's opening restrictions are the offence days that come to such a rung: one more offence day, one rung more
abbrev pub RestrictionsCounted : Type 0
RestrictionsCounted = (shape : Shape) (from book : List ℕ) (days : List WrittenDay) (hard : (kind rung' : ℕ) → Bool)
    → Written shape from days book → ByRung shape (rulebook_of from) hard
    → (y ladder : ℕ) → carried from y ladder ≡ 0
    → restrictions from y ladder days
    ≡ count (λ n. hard (kind_at shape.kinds ladder) (rung (n + 1))) (offence_days y ladder days)

-- "a finding is listed exactly when ..", as bytes
abbrev pub FindingsListed : Type 0
FindingsListed = (v : Verdict) (date : ℕ) (book : List ℕ) → Lists v date book (findings v date book) (found_count v)

-- "no offence and no opening restriction is lost": days on a book that carries nothing, and the same with two groups
-- joined
abbrev pub NothingLost : Type 0
NothingLost = (a b : ℕ) → Two a b → (shape : Shape) (from book book' : List ℕ) (days days' : List WrittenDay)
    (hard : (kind rung' : ℕ) → Bool) → ByRung shape (rulebook_of from) hard
    → ((y ladder : ℕ) → ladder < ladders shape.kinds → carried from y ladder ≡ 0)
    → Written shape from days book → Written shape from days' book' → SameDays a b days days'
    → YearJoined shape a b from book book' days days'

pub record Laws : Type 0 where
  pub stays_sound : StaysSound
  pub book_of_days : BookOfDays
  pub totals_counted : TotalsCounted
  pub blank_carries_nothing : BlankCarriesNothing
  pub findings_found : FindingsFound
  pub sanctions_found : SanctionsFound
  pub third_rung : ThirdRung
  pub limit_rungs : LimitRungs
  pub restrictions_counted : RestrictionsCounted
  pub findings_listed : FindingsListed
  pub nothing_lost : NothingLost
