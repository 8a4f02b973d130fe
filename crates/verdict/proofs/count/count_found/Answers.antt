use mathlib.Core.Path.{◌≡◌, sym, ap, ap₂, ◌∙◌}
use Prim.Native.Nat.{◌+◌, ◌≤◌}
use native.Mathlib.Omega.{arith}
use lib.Dec.{ltb}
use Rattle.wire.specs.Choice.{pick}
use Rattle.wire.specs.Below.{count}
use Rattle.wire.proofs.ChoiceLaws.{bit_of, pick_le}
use Rattle.wire.proofs.BelowLaws.{count_none, count_more, count_le}
use Rattle.rules.proofs.KindLaws.{few}
use Rattle.places.specs.Places.{ladders}
use Rattle.posting.specs.Raise.{hit_at}
use Rattle.verdict.specs.Verdict.{found_in}
use Rattle.verdict.proofs.count.count_found.Goals as goal

pub loop-l-init : goal.loop-l-init
loop-l-init c = sym (count_none _)

pub overflow_add-found : goal.overflow_add-found
overflow_add-found c =
    let hit = hit_at c.args.places.now c.args.contracts in
    let one : c.from-found.result ≤ 1 = rw (c.from-found.ensures ∙ bit_of _)
    (pick_le _ 1 0 1 (omega arith) (omega arith)) in
    omega (arith, few c.args.kinds, count_le hit c.loop-l.l)

pub loop-l-preserved : goal.loop-l-preserved
loop-l-preserved c =
    let a = c.args in
    let l = c.loop-l in
    ap₂ (λ x y. x + y) l.invariant
    (c.from-found.ensures ∙ bit_of _ ∙ ap (λ p. pick (ltb p a.contracts) 1 0) c.place_in.ensures)
    ∙ sym (count_more (hit_at a.places.now a.contracts) l.l)

pub returns : goal.returns
unfolding found_in
returns c =
    let a = c.args in
    let l = c.loop-l in
    let e : l.l ≡ ladders a.kinds = omega (arith, c.ladders_in-l-end.ensures) in
    l.invariant ∙ ap (count (hit_at a.places.now a.contracts)) e
