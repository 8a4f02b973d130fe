use Rattle.wire.proofs.ChoiceLaws.{told}
use Rattle.counts.proofs.WeighLaws.{lent_few, lent_accounts}
use Rattle.counts.proofs.weigh.weigh.Goals as goal

pub weigh_in-requires : goal.weigh_in-requires
weigh_in-requires c =
    let same = told _ _ _ c.tables_changed.ensures c.if-tables_changed.false in
    record {
      few = lent_few _ _ _ _ c.contracts_part.ensures c.accounts_part.ensures same;
      rising = lent_accounts _ _ _ _ c.contracts_part.ensures c.accounts_part.ensures same;
    }
