use mathlib.Core.Path.{◌≡◌, ◌∙◌, sym, ap}
use Prim.Native.Nat.{ℕ, ◌+◌, ◌-◌}
use native.Mathlib.Omega.{arith}
use Rattle.wire.proofs.ChoiceLaws.{told}
use Rattle.calendar.specs.Dates.{month, day, days_in, day_number}
use Rattle.calendar.proofs.DateLaws.{real, number_of, number_none, number_most}
use Rattle.calendar.proofs.day_number.Goals as goal

-- what is returned is the day number: the fact behind the sum's fit and the return
is_number : (c : goal.After-days_in) → c.days_in.result + day c.args.date
    ≡ day_number c.args.date
is_number c =
    let d = c.args.date in
    ap (λ (n : ℕ). n + day d) (c.days_in.ensures ∙ ap (λ (y : ℕ). days_in y (month d - 1))
    c.year_of.ensures)
    ∙ sym (number_of d (told _ _ _ c.is_day.ensures c.if-not-is_day.false))

pub returns-then-not-is_day : goal.returns-then-not-is_day
returns-then-not-is_day c = sym
    (number_none c.args.date (told _ _ _ c.is_day.ensures c.if-not-is_day.true))

pub overflow_sub-date : goal.overflow_sub-date
overflow_sub-date c =
    omega (
      arith,
      real c.args.date (told _ _ _ c.is_day.ensures
          c.if-not-is_day.false),
    )

pub days_in-requires : goal.days_in-requires
days_in-requires c =
    omega (
      arith,
      real c.args.date (told _ _ _ c.is_day.ensures
          c.if-not-is_day.false),
    )

pub overflow_add-result : goal.overflow_add-result
overflow_add-result c = omega (arith, is_number c, number_most c.args.date)

pub returns : goal.returns
returns c = is_number c
