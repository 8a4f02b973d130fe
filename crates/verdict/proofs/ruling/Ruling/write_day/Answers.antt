use Rattle.verdict.proofs.SettleLaws.{book_written}
use Rattle.verdict.proofs.ruling.Ruling.write_day.Goals as goal

pub returns-clause-book_after : goal.returns-clause-book_after
returns-clause-book_after c =
    let a = c.args in
    let r = a.self.now in
    book_written r.shape r.rulebook r.places.now r.ids.now r.members.now a.date a.book.now _ _ _
    c.is_later_year-later.ensures c.requires.0 c.raise_all.ensures c.put_head.ensures
