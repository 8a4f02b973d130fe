use mathlib.Core.Path.{◌≡◌, refl}
use native.Mathlib.Omega.{arith}
use borrow.Author.Rules.{rules}
use lib.ListN.{length}
use Prim.Native.Nat.{◌≤◌}
use Rattle.std.specs.Prelude.{Err}
use Rattle.wire.proofs.ChoiceLaws.{bounds}
use Rattle.wire.proofs.AnswerLaws.{done}
use Rattle.wire.proofs.RefusalLaws.{keep, accepted}
use Rattle.posting.proofs.FreshLaws.{made, fresh_written}
use Rattle.posting.proofs.WriteLaws.{totals_zeroed}
use Rattle.posting.proofs.fresh.fresh_as.Goals as goal

pub returns-in_err-check_fresh : goal.returns-in_err-check_fresh
returns-in_err-check_fresh c =
    let e : c.from_residual.result ≡ Err c.in_err-check_fresh.field-0.0 = search rules in
    rw e (keep _ _ _ c.in_err-check_fresh.ensures)

pub overflow_cast-rulebook : goal.overflow_cast-rulebook
overflow_cast-rulebook c =
    let q = made _ _ _ (accepted _ _ c.in_ok-check_fresh.ensures).0 in
    omega (arith, (bounds 1 2 c.args.rulebook q.known).1)

pub slice_bounds-fill-count : goal.slice_bounds-fill-count
slice_bounds-fill-count c =
    let q = made _ _ _ (accepted _ _ c.in_ok-check_fresh.ensures).0 in
    omega (arith, q.long)

pub slice_bounds-fill-start : goal.slice_bounds-fill-start
slice_bounds-fill-start c =
    let q = made _ _ _ (accepted _ _ c.in_ok-check_fresh.ensures).0 in
    let long : 16 ≤ length c.args.book.now = omega (arith, q.long) in
    search rules

pub returns : goal.returns
returns c =
    let none = (accepted _ _ c.in_ok-check_fresh.ensures).0 in
    let long = (made _ _ _ none).long in
    done _ none refl
    (fresh_written _ _ _ _ _ long c.put_head.ensures
    (totals_zeroed _ _ _ (omega arith) (c.fill.ensures.after (λ y e. search rules))))
