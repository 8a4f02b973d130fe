use mathlib.Core.Path.{◌≡◌, sym, ap₂, ◌∙◌}
use mathlib.Core.Bool.{◌&&◌}
use native.Mathlib.Omega.{arith}
use borrow.Author.Rules.{rules}
use lib.Dec.{leb}
use Rattle.wire.proofs.BelowLaws.{every_none, every_next}
use Rattle.rules.proofs.KindLaws.{few}
use Rattle.places.specs.Places.{ladders}
use Rattle.book.specs.Layout.{total_at}
use Rattle.book.specs.Sound.{most_of, totals_good}
use Rattle.book.proofs.sound.totals_good.Goals as goal

pub loop-l-init : goal.loop-l-init
loop-l-init c = (search rules, sym (every_none _))

pub overflow_mul-l : goal.overflow_mul-l
overflow_mul-l c = omega (arith, (few c.args.kinds).1)

pub overflow_add-l : goal.overflow_add-l
overflow_add-l c = omega (arith, (few c.args.kinds).1)

pub loop-l-preserved : goal.loop-l-preserved
loop-l-preserved c =
    let a = c.args in
    let l = c.loop-l in (
      search rules,
      ap₂ (λ x y. x && y) l.invariant.1 (ap₂ leb c.get16.ensures c.most_of.ensures)
          ∙ every_next (λ k. leb (total_at a.b.now k) (most_of a.rulebook a.day k)) l.l,
    )

pub returns : goal.returns
unfolding totals_good
returns c = let e : c.loop-l.l ≡ ladders c.args.kinds = omega arith in
    rw (← e) c.loop-l.invariant.1
