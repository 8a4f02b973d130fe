use native.Mathlib.Omega.{arith}
use borrow.Author.Rules.{rules}
use Rattle.wire.proofs.FillLaws.{pairs_are}
use Rattle.tables.specs.ContractEntries.{contract_in}
use Rattle.tables.specs.Entries.{entries}
use Rattle.desk.specs.Way.{ids_in}
use Rattle.desk.proofs.verdicts.fill_ids.Goals as goal

pub returns : goal.returns
unfolding ids_in
returns c =
    let a = c.args in
    pairs_are (λ k. (contract_in a.contracts.now k).id) _ (entries a.contracts.now) (omega arith)
    (λ i. omega (arith, c.type_inv.ids i)) (λ k h. let p = c.fill_pairs.ensures.pairs k (omega arith) in search rules)
