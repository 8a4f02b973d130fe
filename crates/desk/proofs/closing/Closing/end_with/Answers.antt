use mathlib.Core.Path.{◌≡◌}
use borrow.Author.Rules.{rules}
use Rattle.std.specs.Prelude.{Err}
use Rattle.wire.proofs.RefusalLaws.{keep_on, accepted}
use Rattle.desk.specs.End.{counts_fault}
use Rattle.desk.proofs.EndLaws.{ended_by_lem}
use Rattle.desk.proofs.VerdictLaws.{kinds_are}
use Rattle.desk.proofs.closing.Closing.end_with.Goals as goal

pub returns-in_err-lowest : goal.returns-in_err-lowest
unfolding counts_fault
returns-in_err-lowest c =
    let a = c.args.self.now in
    let e : c.from_residual.result ≡ Err c.in_err-lowest.field-0.0 = search rules in
    rw e
    (keep_on _ _ _ _ (rw (kinds_are a.day.head a.log.now a.counts.now a.own a.good) at c.in_err-lowest.ensures))

pub returns-in_err-found : goal.returns-in_err-found
returns-in_err-found c =
    let a = c.args.self.now in
    let judged = accepted _ _ c.in_ok-lowest.ensures in
    let e : c.from_residual-in_err-found.result ≡ Err c.in_err-found.field-0.0 = search rules in
    rw e
    (ended_by_lem a.day a.log.now a.counts.now a.own a.good a.bytes judged.0
    c.args.book.now c.args.out.now c.requires
    (rw judged.1 at c.in_err-found.ensures))

pub returns : goal.returns
returns c =
    let a = c.args.self.now in
    let judged = accepted _ _ c.in_ok-lowest.ensures in
    ended_by_lem a.day a.log.now a.counts.now a.own a.good a.bytes judged.0
    c.args.book.now c.args.out.now c.requires
    (rw judged.1 at c.in_ok-found.ensures)
