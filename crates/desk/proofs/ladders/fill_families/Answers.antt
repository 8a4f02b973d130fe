use native.Mathlib.Omega.{arith}
use borrow.Author.Rules.{rules}
use Rattle.wire.proofs.FillLaws.{bytes_are}
use Rattle.tables.specs.Entries.{entries}
use Rattle.desk.specs.Way.{family_in, families_in}
use Rattle.desk.proofs.ladders.fill_families.Goals as goal

pub returns : goal.returns
unfolding families_in
returns c =
    let a = c.args in
    bytes_are (family_in a.text a.contracts.now) _ (entries a.contracts.now) (omega arith)
    (λ k h. let p = c.fill_bytes.ensures k (omega arith) in search rules)
