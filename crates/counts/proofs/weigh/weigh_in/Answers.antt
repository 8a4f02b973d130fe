use mathlib.Core.Path.{◌≡◌, sym, ap, ◌∙◌}
use mathlib.Core.Bool.{true}
use borrow.Author.Tests.{eqb-false}
use Rattle.std.specs.Prelude.{Ok}
use Rattle.wire.proofs.ChoiceLaws.{told}
use Rattle.daylog.specs.Records.{record_good}
use Rattle.tables.specs.Tables.{tables_in}
use Rattle.counts.proofs.WeighLaws.{a_contract, an_account, its_group, place_fits}
use Rattle.counts.proofs.WeighLaws.{second_there, second_none, counts_by, plan_is, plan_none, reasons_is}
use Rattle.counts.proofs.weigh.weigh_in.Goals as goal

pub overflow_cast-place : goal.overflow_cast-place
overflow_cast-place c =
    let a = c.args in
    let h = a_contract a.text a.contracts.now a.accounts.now a.r.contract _ _
    (sym c.in-Some.is ∙ c.find_contract.ensures) in
    record { fits = place_fits _ _ _ _ _ _ h c.requires.few }

pub returns-then-r-ne1 : goal.returns-then-r-ne1
unfolding tables_in
returns-then-r-ne1 c =
    let a = c.args in
    let t = tables_in a.text a.contracts.now a.accounts.now in
    let fields : record_good a.text a.r ≡ true = told _ _ _ c.record_good.ensures c.if-not-record_good.false in
    let h = a_contract a.text a.contracts.now a.accounts.now a.r.contract _ _
    (sym c.in-Some.is ∙ c.find_contract.ensures) in
    let e = c.find_account-first.ensures.by_halving in
    let some = eqb-false _ 0 (sym c.is_empty.ensures ∙ c.if-is_empty.false) in
    let one_there = an_account a.text a.contracts.now a.accounts.now a.r.first c.requires.rising _ e some in
    let one = its_group a.text a.contracts.now a.accounts.now a.r.first c.requires.rising _ e some in
    let other = c.if-r-ne1.true in
    let group = c.get8.ensures ∙ one in
    ap Ok c.weigh_for.ensures
    ∙ counts_by _ a.r _ _ (second_none t a.r fields h.has one_there other)
    (plan_none t a.r _ _ _ h.entry h.place group 0 other)
    (reasons_is t a.r _ _ _ h.entry h.place group)

pub returns : goal.returns
unfolding tables_in
returns c =
    let a = c.args in
    let t = tables_in a.text a.contracts.now a.accounts.now in
    let fields : record_good a.text a.r ≡ true = told _ _ _ c.record_good.ensures c.if-not-record_good.false in
    let h = a_contract a.text a.contracts.now a.accounts.now a.r.contract _ _
    (sym c.in-Some.is ∙ c.find_contract.ensures) in
    let e = c.find_account-first.ensures.by_halving in
    let some = eqb-false _ 0 (sym c.is_empty.ensures ∙ c.if-is_empty.false) in
    let one_there = an_account a.text a.contracts.now a.accounts.now a.r.first c.requires.rising _ e some in
    let one = its_group a.text a.contracts.now a.accounts.now a.r.first c.requires.rising _ e some in
    let f = c.find_account-second.ensures.by_halving in
    let also = eqb-false _ 0 (sym c.is_empty-2.ensures ∙ c.if-is_empty-2.false) in
    let there = an_account a.text a.contracts.now a.accounts.now a.r.second c.requires.rising _ f also in
    let two = its_group a.text a.contracts.now a.accounts.now a.r.second c.requires.rising _ f also in
    let group = c.get8-2.ensures ∙ one in
    let group2 = c.get8-3.ensures ∙ two in
    ap Ok c.weigh_for-2.ensures
    ∙ counts_by _ a.r _ _ (second_there t a.r fields h.has one_there there)
    (plan_is t a.r _ _ _ h.entry h.place group _ group2)
    (reasons_is t a.r _ _ _ h.entry h.place group)
