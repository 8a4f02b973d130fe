use mathlib.Core.List.{[]}
use native.Mathlib.Omega.{arith}
use borrow.Author.Rules.{rules}
use Rattle.wire.proofs.FillLaws.{bytes_are}
use Rattle.positions.specs.LimitEntries.{limit_count}
use Rattle.positions.specs.Way.{family_in, families_in}
use Rattle.positions.proofs.EntryLaws.{limited_here}
use Rattle.positions.proofs.offences.fill_families.Goals as goal

pub returns : goal.returns
unfolding families_in
returns c =
    let a = c.args in
    bytes_are (family_in a.text a.contracts.now) _ (limit_count a.contracts.now) (omega arith)
    (λ k h.
    let p = c.fill_bytes.ensures k (omega arith) in
    let here = limited_here a.contracts.now c.as_chunks.result.0.now k [] c.as_chunks.ensures.front h in
    search rules)
