use mathlib.Core.Path.{◌≡◌}
use Prim.Native.Nat.{◌/◌}
use native.Mathlib.Omega.{arith}
use borrow.Author.Rules.{rules}
use lib.ListN.{length}
use Rattle.wire.proofs.BufferLaws.{no_rows}
use Rattle.posting.specs.Raise.{raised_part}
use Rattle.posting.proofs.WriteLaws.{raise_turn}
use Rattle.posting.proofs.raise.raise_group.Goals as goal

pub loop-j-init : goal.loop-j-init
loop-j-init c = (search rules, search rules, no_rows _ _ _)

pub loop-j-preserved : goal.loop-j-preserved
loop-j-preserved c =
    let l = c.loop-j in
    let a = c.args in (
      search rules,
      search rules,
      raise_turn a.part.now a.later a.places.now a.from a.contracts l.part _ l.j _ _ _
          l.invariant.2 c.place_in.ensures c.get16-total.ensures
          c.next_total.ensures c.put16.ensures (omega arith),
    )

pub returns : goal.returns
unfolding raised_part
returns c =
    let e : c.loop-j.j ≡ length c.args.part.now / 2 = omega arith in
    rw (← e) c.loop-j.invariant.2
