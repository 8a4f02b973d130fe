use mathlib.Core.Path.{◌≡◌, refl, sym, ap, ◌∙◌}
use native.Mathlib.Omega.{arith}
use Rattle.wire.proofs.BelowLaws.{every_none, every_more}
use Rattle.positions.specs.Records.{record_count, contract_before, account_before}
use Rattle.positions.proofs.EntryLaws.{contract_before_lem, account_before_lem}
use Rattle.positions.proofs.RecordLaws.{looked, turn_bad, turn_good, turn_cell, side_none}
use Rattle.positions.proofs.RecordLaws.{side_turn, side_most, long_most, short_most, all_bad, all_good, sums_all}
use Rattle.wire.proofs.ChoiceLaws.{flip_yes, flip_no}
use Rattle.positions.proofs.sums.add_records.Goals as goal

pub loop-row-init : goal.loop-row-init
unfolding contract_before account_before
loop-row-init c =
    let a = c.args in
    let p = c.requires in
    let good = p.1 in (
      refl,
      refl,
      c.limit_place-place.ensures,
      every_none _,
      p.3 ∙ side_none a.contracts.now a.accounts.now a.records.now good (λ r. r.long),
      p.4 ∙ side_none a.contracts.now a.accounts.now a.records.now good (λ r. r.short),
    )

pub returns-then-not-fields_good-place : goal.returns-then-not-fields_good-place
returns-then-not-fields_good-place c =
    let l = c.loop-row in
    let look = looked c.args.contracts.now c.args.accounts.now c.args.records.now c.requires.1 _
    c.as_chunks.ensures.front (omega arith) c.position_of-r.ensures l.invariant.0 l.invariant.1
    c.next_place-place.ensures c.find_account-entry.ensures.by_halving in
    let a = c.args in
    let bad = turn_bad a.contracts.now a.accounts.now a.records.now
    c.requires.1
    look c.fields_good.ensures (flip_yes _ c.if-not-fields_good-place.true) in
    let none = all_bad a.contracts.now a.accounts.now a.records.now c.requires.1 l.row-index (omega arith) bad in
    record { value = sym none; sums_after = λ e. cc }

pub add-requires : goal.add-requires
add-requires c =
    let a = c.args in
    let l = c.loop-row in
    omega (
      arith,
      side_most a.contracts.now a.accounts.now a.records.now
          c.requires.1 (λ r. r.long)
          (long_most a.records.now (λ i. omega (
            arith,
            c.type_inv.records i,
          ))) l.row-index
          c.cell_of-cell.result l.invariant.4,
      c.requires.2,
    )

pub add-requires-in-loop-row : goal.add-requires-in-loop-row
add-requires-in-loop-row c =
    let a = c.args in
    let l = c.loop-row in
    omega (
      arith,
      side_most a.contracts.now a.accounts.now a.records.now
          c.requires.1
          (λ r. r.short)
          (short_most a.records.now (λ i. omega (
            arith,
            c.type_inv.records i,
          ))) l.row-index
          c.cell_of-cell.result l.invariant.5,
      c.requires.2,
    )

pub loop-row-preserved : goal.loop-row-preserved
loop-row-preserved c =
    let l = c.loop-row in
    let look = looked c.args.contracts.now c.args.accounts.now c.args.records.now c.requires.1 _
    c.as_chunks.ensures.front (omega arith) c.position_of-r.ensures l.invariant.0 l.invariant.1
    c.next_place-place.ensures c.find_account-entry.ensures.by_halving in
    let a = c.args in
    let good = c.requires.1 in
    let own = look.own in
    let fields = c.fields_good.ensures in
    let left = flip_no _ c.if-not-fields_good-place.false in
    let cell = c.cell_of-cell.ensures
    ∙ turn_cell a.contracts.now a.accounts.now a.records.now good
    look fields left _ c.get8.ensures in (
      ap (λ r. r.contract) own ∙ contract_before_lem a.records.now l.row-index,
      ap (λ r. r.account) own ∙ account_before_lem a.records.now l.row-index,
      c.next_place-place.ensures,
      every_more _ l.row-index l.invariant.3
          (turn_good a.contracts.now a.accounts.now a.records.now good look fields left),
      side_turn a.contracts.now a.accounts.now a.records.now good (λ r. r.long) l.row-index l.invariant.4 cell
          (ap (λ r. r.long.0) own) c.add.ensures,
      side_turn a.contracts.now a.accounts.now a.records.now good (λ r. r.short) l.row-index l.invariant.5 cell
          (ap (λ r. r.short.0) own) c.add-in-loop-row.ensures,
    )

pub returns : goal.returns
returns c =
    let a = c.args in
    let l = c.loop-row in
    let e : l.row-index ≡ record_count a.records.now = omega arith in
    record {
      value = sym (all_good a.contracts.now a.accounts.now a.records.now c.requires.1 l.row-index e l.invariant.3);
      sums_after =
          λ _. sums_all a.contracts.now a.accounts.now a.records.now c.requires.1 l.sums l.row-index e l.invariant.4
          l.invariant.5;
    }
