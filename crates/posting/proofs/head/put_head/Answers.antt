use Rattle.posting.proofs.WriteLaws.{head_written, head_fitting, head_too_long}
use Rattle.posting.proofs.head.put_head.Goals as goal

pub returns-then-b-lt16 : goal.returns-then-b-lt16
returns-then-b-lt16 c =
    let a = c.args in
    head_too_long a.b.now a.letter a.rulebook a.date c.if-b-lt16.true

pub returns : goal.returns
returns c =
    let a = c.args in
    head_fitting a.b.now a.letter a.rulebook a.date _ c.if-b-lt16.false
    (head_written a.b.now a.letter a.rulebook a.date _ _ _ _ _ c.if-b-lt16.false
    c.copy_from_slice.ensures.after c.put16.ensures c.put32.ensures c.put16-2.ensures c.put32-2.ensures)
