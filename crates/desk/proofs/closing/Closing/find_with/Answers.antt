use mathlib.Core.Path.{◌≡◌, ◌∙◌}
use native.Mathlib.Omega.{arith}
use borrow.Author.Rules.{rules}
use Rattle.std.specs.Prelude.{Err}
use Rattle.wire.proofs.RefusalLaws.{pass_on, accepted}
use Rattle.desk.specs.End.{counts_fault, day_found}
use Rattle.desk.proofs.EndLaws.{found_low, found_short, found_done}
use Rattle.desk.proofs.VerdictLaws.{kinds_are}
use Rattle.desk.proofs.closing.Closing.find_with.Goals as goal

pub returns-in_err-lowest : goal.returns-in_err-lowest
unfolding day_found counts_fault
returns-in_err-lowest c =
    let a = c.args.self.now in
    let e : c.from_residual.result ≡ Err c.in_err-lowest.field-0.0 = search rules in
    e ∙ pass_on _ _ _ _ (rw (kinds_are a.day.head a.log.now a.counts.now a.own a.good) at c.in_err-lowest.ensures)

pub overflow_mul-found : goal.overflow_mul-found
overflow_mul-found c = let low = found_low c.kinds_of.result _ _ _ c.count_found-found.ensures in
    omega arith

pub returns-then-room-found : goal.returns-then-room-found
returns-then-room-found c =
    let a = c.args.self.now in
    let judged = accepted _ _ c.in_ok-lowest.ensures in
    found_short a.day a.log.now a.counts.now a.own a.good a.bytes judged.0 c.args.room _
    (rw (c.kinds_of.ensures, c.as_bytes.ensures, judged.1) at c.count_found-found.ensures)
    c.if-room-found.true

pub returns : goal.returns
returns c =
    let a = c.args.self.now in
    let judged = accepted _ _ c.in_ok-lowest.ensures in
    found_done a.day a.log.now a.counts.now a.own a.good a.bytes judged.0 c.args.room _
    (rw (c.kinds_of.ensures, c.as_bytes.ensures, judged.1) at c.count_found-found.ensures)
    c.if-room-found.false
