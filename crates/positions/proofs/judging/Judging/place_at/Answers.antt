use mathlib.Core.Path.{refl, ◌∙◌}
use native.Mathlib.Omega.{arith}
use borrow.Author.Rules.{rules}
use borrow.Author.Tests.{tests, lt-ltb, le-ltb}
use lib.ListN.{length}
use Rattle.wire.proofs.BelowLaws.{first_le}
use Rattle.wire.proofs.ChainLaws.{first_ran}
use Rattle.wire.proofs.ChoiceLaws.{pick_yes, pick_no}
use Rattle.positions.specs.Judging.{over_by}
use Rattle.positions.specs.Way.{place_at}
use Rattle.positions.proofs.judging.Judging.place_at.Goals as goal

pub returns-then-not-many : goal.returns-then-not-many
unfolding place_at
returns-then-not-many c = (pick_yes _ _ _ _ (lt-ltb _ 2 c.if-not-many.true) refl, omega arith)

pub returns : goal.returns
unfolding place_at
returns c =
    let over = over_by c.args.self.now c.args.ladder in
    let n = length c.args.self.now.fams.now in
    let found = c.unwrap_or.ensures ∙ first_ran _ _ _ over n c.find.ensures.ran (λ x q k. search (rules, tests))
    (λ x q k. search (rules, tests)) in
    (pick_no _ _ _ _ (le-ltb _ 2 c.if-not-many.false) found, omega (arith, found, first_le over n))
