use Rattle.verdict.proofs.SettleLaws.{found_most, found_in_lem, settle_short, settle_done}
use Rattle.verdict.specs.Settle.{settle_fault}
use Rattle.verdict.specs.Verdict.{verdict_in}
use Rattle.rules.proofs.KindLaws.{few}
use Rattle.wire.proofs.RefusalLaws.{refuse_all}
use Rattle.wire.proofs.ChoiceLaws.{pick_yes, flip_yes}
use borrow.Author.Tests.{ne_eqb}
use native.Mathlib.Omega.{arith}
use mathlib.Core.Path.{refl, sym, ◌∙◌}
use Rattle.verdict.proofs.ruling.Ruling.settle.Goals as goal

pub returns-then-book-book_size : goal.returns-then-book-book_size
unfolding settle_fault verdict_in
returns-then-book-book_size c =
    refuse_all _
    (pick_yes _ _ _ _ (flip_yes _ (ne_eqb _ _ (λ e. c.if-book-book_size.true (e ∙ sym c.book_size.ensures)))) refl)

pub overflow_mul-found : goal.overflow_mul-found
unfolding verdict_in
overflow_mul-found c =
    let a = c.args in
    let r = a.self.now in
    omega (
      arith,
      few r.shape.kinds,
      found_most (verdict_in r.shape r.rulebook r.places.now r.ids.now
          r.members.now),
      found_in_lem r.shape r.rulebook r.places.now r.ids.now
          r.members.now,
      c.count_found-found.ensures,
    )

pub returns-then-out-found : goal.returns-then-out-found
returns-then-out-found c =
    let a = c.args in
    let r = a.self.now in
    settle_short r.shape r.rulebook r.places.now r.ids.now r.members.now a.date a.book.now
    a.out.now _ (c.if-book-book_size.false ∙ c.book_size.ensures)
    c.count_found-found.ensures c.if-out-found.true

pub write_day-requires : goal.write_day-requires
write_day-requires c =
    let a = c.args in
    let r = a.self.now in (
      c.if-book-book_size.false ∙ c.book_size.ensures,
      omega (
        arith,
        c.count_found-found.ensures,
        found_in_lem r.shape r.rulebook
            r.places.now r.ids.now r.members.now,
      ),
    )

pub returns : goal.returns
returns c =
    let a = c.args in
    let r = a.self.now in
    settle_done r.shape r.rulebook r.places.now r.ids.now r.members.now a.date a.book.now
    a.out.now _ (c.if-book-book_size.false
    ∙ c.book_size.ensures)
    c.count_found-found.ensures
    c.if-out-found.false
    c.write_day.ensures.book_after
    c.write_day.ensures.out_after
