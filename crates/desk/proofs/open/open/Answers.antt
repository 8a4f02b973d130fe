use Rattle.wire.proofs.RefusalLaws.{accepted}
use Rattle.desk.proofs.HandedLaws.{room_opened}
use Rattle.desk.proofs.open.open.Goals as goal

pub zero_first-requires : goal.zero_first-requires
zero_first-requires c =
    let a = c.args in
    rw (c.cells_for.ensures, c.header_of-head.ensures)
    (room_opened a.state a.log.now a.book.now _ (accepted _ _ c.in_ok-would_open.ensures).0)
