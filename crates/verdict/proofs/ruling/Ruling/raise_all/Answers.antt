use Rattle.places.specs.Places.{ladders}
use Rattle.verdict.proofs.RaiseLaws.{group_bytes, next_fits, group_again, all_groups}
use Rattle.wire.proofs.BufferLaws.{no_rows}
use Rattle.wire.specs.Buffers.{put, rows}
use native.Mathlib.Omega.{arith}
use Prim.Native.Nat.{◌*◌, ◌/◌}
use lib.ListN.{length}
use mathlib.Core.Path.{◌≡◌, ◌∙◌, ap}
use borrow.Author.Rules.{rules}
use Rattle.verdict.proofs.ruling.Ruling.raise_all.Goals as goal

pub loop-g-init : goal.loop-g-init
loop-g-init c = (search rules, search rules, no_rows _ _ _)

pub loop-g-preserved : goal.loop-g-preserved
loop-g-preserved c =
    let l = c.loop-g in
    let a = c.args in
    let n = c.kinds_in-own.ensures in
    let f = next_fits a.self.now.shape.kinds _ l.g _ n c.loop-g-test.true c.requires in
    let again =
    group_again _ a.later a.self.now.places.now a.book.now (length a.self.now.ids.now / 2) l.book l.g f.0
    l.invariant.1 l.invariant.2 _
    c.raise_group.ensures f.1 in (
      search rules,
      again.0,
      again.1,
    )

pub returns : goal.returns
returns c =
    let l = c.loop-g in
    let e : l.g ≡ 128 = omega arith in
    l.invariant.2
    ∙ ap (λ n. put c.args.book.now 16
    (rows (group_bytes (16 * c.kinds_in-own.result) c.args.later c.args.self.now.places.now
    c.args.book.now (length c.args.self.now.ids.now / 2)) n)) e
    ∙ ap (put c.args.book.now 16)
    (all_groups (16 * c.kinds_in-own.result) c.args.later c.args.self.now.places.now
    c.args.book.now (length c.args.self.now.ids.now / 2) (ladders c.args.self.now.shape.kinds)
    (omega (arith, c.kinds_in-own.ensures)))
