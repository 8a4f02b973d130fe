use native.Mathlib.Omega.{arith}
use Rattle.desk.proofs.EndLaws.{lent}
use Rattle.desk.proofs.end.would_end.Goals as goal

pub invariant_of-closing : goal.invariant_of-closing
invariant_of-closing c =
    let l = lent _ _ _ _ _ c.in_ok-check_lent.ensures in
    record { bytes = λ j. omega (arith, c.type_inv.log j); own = l.head; good = l.tables; enough = l.counts_long }
