use mathlib.Core.Path.{◌≡◌, refl, ap}
use native.Mathlib.Omega.{arith}
use borrow.Author.Rules.{rules}
use Rattle.std.specs.Prelude.{Err}
use Rattle.wire.proofs.RefusalLaws.{accepted}
use Rattle.rules.specs.Kinds.{kinds_in}
use Rattle.positions.proofs.ReadLaws.{front_refused}
use Rattle.positions.proofs.JudgeLaws.{log_refused, book_refused, log_good, settled}
use Rattle.positions.proofs.judge.judge.Goals as goal

pub returns-in_err-check_front : goal.returns-in_err-check_front
returns-in_err-check_front c =
    let s = c.args.log.now in
    let e : c.from_residual.result ≡ Err c.in_err-check_front.field-0.0 = search rules in
    rw e (log_refused s c.args.book.now c.args.out.now _ (front_refused s c.in_err-check_front.ensures))

pub sum_records-requires : goal.sum_records-requires
unfolding kinds_in
sum_records-requires c = ((accepted _ _ c.in_ok-check_front.ensures).0, refl, refl)

pub returns-in_err-sum_records : goal.returns-in_err-sum_records
returns-in_err-sum_records c =
    let e : c.from_residual-in_err-sum_records.result ≡ Err c.in_err-sum_records.field-0.0 = search rules in
    rw e (log_refused c.args.log.now c.args.book.now c.args.out.now _ c.in_err-sum_records.ensures.value)

pub returns-in_err-check_fits : goal.returns-in_err-check_fits
returns-in_err-check_fits c =
    let a = c.args in
    let e : c.from_residual-in_err-check_fits.result ≡ Err c.in_err-check_fits.field-0.0 = search rules in
    rw e (book_refused a.log.now a.book.now a.out.now _ c.header_of-h.ensures
    (accepted _ _ c.in_ok-sum_records.ensures.value).0 _ c.position_shape.ensures c.in_err-check_fits.ensures)

pub settle_log-requires : goal.settle_log-requires
settle_log-requires c =
    log_good c.args.log.now c.args.book.now c.args.out.now _ c.header_of-h.ensures
    (accepted _ _ c.in_ok-sum_records.ensures.value).0

pub returns : goal.returns
returns c =
    let a = c.args in
    let fine = (accepted _ _ c.in_ok-sum_records.ensures.value).0 in
    let sums = c.in_ok-sum_records.ensures.sums_after fine in
    settled a.log.now a.book.now a.out.now _ c.header_of-h.ensures fine (λ j. omega (arith, c.type_inv.log j)) _
    c.position_shape.ensures (accepted _ _ c.in_ok-check_fits.ensures).0 (ap (λ s. s.longs) sums)
    (ap (λ s. s.shorts) sums) c.settle_log.ensures
