use mathlib.Core.Path.{sym, ◌∙◌}
use Rattle.wire.proofs.RefusalLaws.{accept, refused_some}
use Rattle.positions.proofs.ReadLaws.{asked, sums_are, records_refused, records_pass}
use Rattle.positions.proofs.log.sum_records.Goals as goal

pub add_records-requires : goal.add_records-requires
add_records-requires c =
    let p = asked c.args.log.now _ c.header_of-h.ensures c.requires.0
    c.limits_part-contracts.ensures c.accounts_part-accounts.ensures c.records_part.ensures in
    (p.0, p.1, p.2, c.requires.1, c.requires.2)

pub returns-then-not-add_records : goal.returns-then-not-add_records
returns-then-not-add_records c =
    let refused = records_refused c.args.log.now _ c.header_of-h.ensures c.requires.0
    c.limits_part-contracts.ensures c.accounts_part-accounts.ensures c.records_part.ensures
    (sym c.add_records.ensures.value ∙ c.if-not-add_records.true) in
    record { value = refused; sums_after = λ fine. absurd (refused_some _ tt refused fine) }

pub returns : goal.returns
returns c =
    let s = c.args.log.now in
    let is = c.header_of-h.ensures in
    let fine = c.requires.0 in
    let limits = c.limits_part-contracts.ensures in
    let accounts = c.accounts_part-accounts.ensures in
    let records = c.records_part.ensures in
    let good = c.if-not-add_records.false in
    record {
      value = accept tt (records_pass s _ is fine limits accounts records (sym c.add_records.ensures.value ∙ good));
      sums_after = λ _. sums_are s _ is fine limits accounts records (c.add_records.ensures.sums_after good);
    }
