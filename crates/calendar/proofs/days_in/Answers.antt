use Prim.Native.Nat.{◌+◌}
use mathlib.Core.Path.{◌≡◌, ◌∙◌, ap}
use native.Mathlib.Omega.{arith}
use borrow.Author.Rules.{rules}
use Rattle.calendar.specs.Dates.{days_in}
use Rattle.calendar.proofs.DateLaws.{month_most, days_more}
use Rattle.calendar.proofs.days_in.Goals as goal

pub loop-k-init : goal.loop-k-init
unfolding days_in
loop-k-init c = search rules

pub overflow_add-n : goal.overflow_add-n
overflow_add-n c = omega (arith, month_most c.args.y (c.loop-k.k + 1))

pub loop-k-preserved : goal.loop-k-preserved
loop-k-preserved c =
    let y = c.args.y in
    let k = c.loop-k.k in
    omega (arith, month_most y (k + 1), days_more y k)

pub returns : goal.returns
returns c =
    let l = c.loop-k in
    let e : l.k ≡ c.args.m = omega arith in
    l.invariant.2 ∙ ap (days_in c.args.y) e
