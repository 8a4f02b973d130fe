use mathlib.Core.Path.{◌≡◌, ◌∙◌, ap, ap₂}
use mathlib.Core.Bool.{◌&&◌}
use native.Mathlib.Omega.{arith}
use borrow.Author.Rules.{rules}
use Rattle.wire.specs.Below.{every}
use Rattle.wire.proofs.BelowLaws.{every_next}
use Rattle.tables.specs.Entries.{entries}
use Rattle.tables.specs.ContractEntries.{contract_at, contract_good, contract_good_at, contracts_good, id_before}
use Rattle.tables.proofs.EntryLaws.{contract_here, id_before_lem}
use Rattle.tables.proofs.contracts.contracts_good.Goals as goal

pub loop-entry-init : goal.loop-entry-init
unfolding every id_before
loop-entry-init c = search rules

pub loop-entry-preserved : goal.loop-entry-preserved
loop-entry-preserved c =
    let a = c.args in
    let s = a.part.now in
    let l = c.loop-entry in
    let k = l.entry-index in
    let here : c.contract_of-e.result ≡ contract_at s k =
    c.contract_of-e.ensures ∙ contract_here s _ k _ c.as_chunks.ensures.front (omega arith) in (
      ap (λ e. e.id) here ∙ id_before_lem s k,
      ap₂ (λ x y. x && y) l.invariant.1
          (c.contract_good-good.ensures ∙ ap₂ (contract_good a.text) l.invariant.0 here)
          ∙ every_next (contract_good_at a.text s) k,
    )

pub returns : goal.returns
unfolding contracts_good
returns c =
    let s = c.args.part.now in
    let l = c.loop-entry in
    let e : l.entry-index ≡ entries s = omega arith in
    l.invariant.1 ∙ ap (every (contract_good_at c.args.text s)) e
