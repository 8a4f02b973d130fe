use native.Mathlib.Omega.{arith}
use Rattle.desk.proofs.EndLaws.{lent, book_long}
use Rattle.desk.proofs.end.end.Goals as goal

pub invariant_of-closing : goal.invariant_of-closing
invariant_of-closing c =
    let l = lent _ _ _ _ _ c.in_ok-check_lent.ensures in
    record { bytes = λ j. omega (arith, c.type_inv.log j); own = l.head; good = l.tables; enough = l.counts_long }

pub end_with-requires : goal.end_with-requires
end_with-requires c = book_long _ _ _ _ (lent _ _ _ _ _ c.in_ok-check_lent.ensures)
