use Rattle.verdict.proofs.FoundLaws.{count_room, found_more, found_turn}
use Rattle.verdict.specs.Verdict.{verdict_in, found_count, findings}
use Rattle.places.specs.Places.{ladders}
use Rattle.wire.proofs.BufferLaws.{no_rows}
use Rattle.wire.proofs.BelowLaws.{count_none}
use native.Mathlib.Omega.{arith}
use mathlib.Core.Path.{◌≡◌, refl, sym, ◌∙◌}
use Prim.Native.Nat.{◌<◌, zero-le}
use borrow.Author.Rules.{rules}
use Rattle.verdict.proofs.ruling.Ruling.list_all.Goals as goal

pub loop-l-init : goal.loop-l-init
loop-l-init c = (zero-le, refl, sym (count_none _), no_rows _ _ _)

pub list_one-n-requires : goal.list_one-n-requires
unfolding found_count verdict_in
list_one-n-requires c =
    let e = c.ladders_in-l-end.ensures in
    let h : c.loop-l.l < ladders
    c.args.self.now.shape.kinds =
    omega arith in (
      h,
      count_room _ _ _ _ _ _ c.loop-l.invariant.2 h
          c.requires
          c.loop-l.invariant.1,
    )

pub loop-l-preserved : goal.loop-l-preserved
loop-l-preserved c =
    let s = c.args in
    let l = c.loop-l in (
      search rules,
      c.list_one-n.auto.out ∙ l.invariant.1,
      found_more _ l.l l.invariant.2 c.list_one-n.ensures.value,
      found_turn _ s.date s.book.now s.out.now _ _ l.n l.l l.invariant.2 l.invariant.3
          c.list_one-n.ensures.out_after,
    )

pub returns : goal.returns
unfolding findings verdict_in
returns c =
    let e : c.loop-l.l
    ≡ ladders c.args.self.now.shape.kinds =
    omega (arith, c.ladders_in-l-end.ensures) in
    rw e at c.loop-l.invariant.3
