use mathlib.Core.Path.{ap}
use mathlib.Core.List.{[]}
use native.Mathlib.Omega.{arith}
use borrow.Author.Rules.{rules}
use Rattle.wire.proofs.FillLaws.{pairs_are}
use Rattle.positions.specs.LimitEntries.{limit_count, limited_at}
use Rattle.positions.specs.Way.{ids_in}
use Rattle.positions.proofs.EntryLaws.{limited_here}
use Rattle.positions.proofs.offences.fill_ids.Goals as goal

pub returns : goal.returns
unfolding ids_in limited_at
returns c =
    let a = c.args in
    pairs_are (λ k. (limited_at a.contracts.now k).id) _ (limit_count a.contracts.now) (omega arith)
    (λ i. omega (arith, c.type_inv.ids i)) (λ k h.
    let p = c.fill_pairs.ensures.pairs k (omega arith) in
    let entries = c.as_chunks.result.0.now in
    let here = ap (λ e. e.id) (limited_here a.contracts.now entries k [] c.as_chunks.ensures.front h) in
    search rules)
