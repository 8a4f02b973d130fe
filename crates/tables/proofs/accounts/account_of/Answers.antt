use Rattle.std.proofs.Common.{◌≡◌, arith, refl}
use Rattle.wire.specs.Bytes.{le}
use Rattle.wire.proofs.ByteLaws.{le_two}
use Rattle.wire.proofs.ChunkLaws.{byte_0, byte_1, byte_2, byte_3}
use Rattle.tables.specs.Accounts.{account_at}
use Rattle.tables.proofs.accounts.account_of.Goals as goal

pub returns : goal.returns
unfolding account_at
returns c =
    let s = c.args.entry.now in
    let small = c.fits-entry in
    let w = c.get32.ensures in
    let spare : c.from_le_bytes.result ≡ le 2 s 6 =
    omega (
      arith,
      rw c.to_le_bytes.ensures at c.from_le_bytes.ensures,
      byte_2 s small 4 _ w,
      byte_3 s small 4 _ w,
      le_two s 6 7 refl,
    ) in
    rw (c.to_le_bytes.ensures, spare, byte_0 s small 4 _ w, byte_1 s small 4 _ w, c.get32-2.ensures) refl
