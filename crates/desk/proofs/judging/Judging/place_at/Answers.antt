use mathlib.Core.Path.{sym, ap, ◌∙◌}
use mathlib.Core.Bool.{◌&&◌}
use Prim.Native.Nat.{◌/◌, ◌*◌, ◌%◌}
use native.Mathlib.Omega.{arith}
use borrow.Author.Count.{below_none, below_more}
use lib.Dec.{eqb}
use lib.ListN.{get_or, length}
use Rattle.wire.proofs.BelowLaws.{first_at, first_none}
use Rattle.rules.specs.Measure.{enough}
use Rattle.places.specs.Places.{kind_at, family_at}
use Rattle.desk.proofs.LowestLaws.{tested_at, lowest_is}
use Rattle.desk.proofs.judging.Judging.place_at.Goals as goal

pub loop-c-init : goal.loop-c-init
loop-c-init c = below_none _

pub returns-then-self-c : goal.returns-then-self-c
returns-then-self-c c =
    let j = c.args.self.now in
    let ladder = c.args.ladder in
    let k = c.loop-c.c in
    let number = c.enough_of-number.result in
    let passes = tested_at j.fams.now j.counts.now (family_at ladder) (ladder / 16 * 32) number in
    let here = ap (λ b. eqb (get_or j.fams.now k 0) (ladder % 16) && b) (sym c.is_reached.ensures)
    ∙ c.if-self-c.true in (
      sym (first_at passes k (length j.fams.now) (omega arith) c.loop-c.invariant here)
          ∙ lowest_is j.text _ j.fams.now j.counts.now ladder number
          (c.enough_of-number.ensures
          ∙ ap (enough j.text) (c.kind_at.ensures ∙ ap (λ k. kind_at k ladder) c.kinds_of-kinds.ensures)),
      omega arith,
    )

pub loop-c-preserved : goal.loop-c-preserved
loop-c-preserved c =
    let j = c.args.self.now in
    let k = c.loop-c.c in
    below_more _ k c.loop-c.invariant
    (ap (λ b. eqb (get_or j.fams.now k 0) (c.args.ladder % 16) && b) (sym c.is_reached.ensures) ∙ c.if-self-c.false)

pub returns : goal.returns
returns c =
    let j = c.args.self.now in
    let ladder = c.args.ladder in
    let n = length j.fams.now in
    let number = c.enough_of-number.result in
    let passes = tested_at j.fams.now j.counts.now (family_at ladder) (ladder / 16 * 32) number in (
      sym (first_none passes n (λ k h. c.loop-c.invariant k (omega arith)))
          ∙ lowest_is j.text _ j.fams.now j.counts.now ladder number
          (c.enough_of-number.ensures
          ∙ ap (enough j.text) (c.kind_at.ensures ∙ ap (λ k. kind_at k ladder) c.kinds_of-kinds.ensures)),
      omega arith,
    )
