use mathlib.Core.List.{[]}
use mathlib.Core.Path.{◌≡◌, sym, ap, ◌∙◌}
use Prim.Native.Nat.{◌+◌, ◌/◌}
use native.Mathlib.Omega.{arith}
use Rattle.tables.specs.Entries.{entries}
use Rattle.tables.specs.Way.{halve, halved}
use Rattle.tables.proofs.EntryLaws.{number_here}
use Rattle.tables.proofs.Search.{next, next_up, next_stay, next_le, halve_end, halve_turn}
use Rattle.tables.proofs.accounts.halving.Goals as goal
use Rattle.tables.proofs.accounts.halving.Goals.{then-get32-number, else-get32-number}

pub loop-size-init : goal.loop-size-init
unfolding halved
loop-size-init c =
    let n = c.as_chunks.ensures.front_len in
    (omega arith, omega arith, ap (halve (entries c.args.part.now) c.args.part.now c.args.number 0) (sym n))

pub loop-size-preserved : goal.loop-size-preserved
loop-size-preserved c =
    let a = c.args in
    let l = c.loop-size in
    let here = number_here a.part.now _ (l.from + l.size / 2) [] c.as_chunks.ensures.front (omega arith) in
    let e : c.if-get32-number.from ≡ next a.part.now a.number l.from l.size =
    elim c.if-get32-number.branch [
      | then-get32-number w ↦ w.from-is ∙ next_up _ _ _ _ (omega arith)
      | else-get32-number w ↦ w.from-is ∙ next_stay _ _ _ _ (omega arith)
    ] in
    rw e (
      omega arith,
      omega (arith, next_le a.part.now a.number l.from l.size),
      l.invariant.2 ∙ halve_turn _ _ _ _ _ c.loop-size-test.true (omega arith),
    )

pub returns : goal.returns
returns c = let l = c.loop-size in sym (l.invariant.2 ∙ halve_end _ _ _ _ _ c.loop-size-test.false)
