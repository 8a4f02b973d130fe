use mathlib.Core.Path.{◌≡◌, sym, ap, ap₂, ◌∙◌}
use mathlib.Core.Bool.{◌&&◌}
use Prim.Native.Nat.{◌<◌, ◌≤◌}
use native.Mathlib.Omega.{arith}
use lib.Dec.{leb}
use lib.ListN.{get_or, length}
use lib.Seq.{length-take-le, get_or-take}
use Rattle.wire.specs.Below.{every}
use Rattle.wire.proofs.BelowLaws.{every_none, every_next}
use Rattle.rules.specs.Kinds.{kinds_of}
use Rattle.places.specs.Places.{cells}
use Rattle.desk.specs.End.{cells_good}
use Rattle.desk.proofs.closing.Closing.cells_good.Goals as goal

pub loop-times-init : goal.loop-times-init
loop-times-init c = sym (every_none _)

pub loop-times-preserved : goal.loop-times-preserved
loop-times-preserved c =
    let a = c.args.self.now in
    let n = c.cells_for.result in
    let l = c.loop-times in
    let k = l.times-index in
    let within : n ≤ length a.counts.now = omega (arith, c.cells_for.ensures, a.enough) in
    let here : k < n = omega (arith, length-take-le n a.counts.now within) in
    ap₂ (λ x y. x && leb y a.day.taken) l.invariant (get_or-take n a.counts.now k 0 here)
    ∙ every_next (λ i. leb (get_or a.counts.now i 0) a.day.taken) k

pub returns : goal.returns
unfolding cells_good
returns c =
    let a = c.args.self.now in
    let n = c.cells_for.result in
    let l = c.loop-times in
    let within : n ≤ length a.counts.now = omega (arith, c.cells_for.ensures, a.enough) in
    let e : l.times-index ≡ cells (kinds_of a.day.head.rulebook) =
    omega (arith, c.cells_for.ensures, length-take-le n a.counts.now within) in
    l.invariant ∙ ap (every (λ i. leb (get_or a.counts.now i 0) a.day.taken)) e
