use Rattle.std.proofs.Common.{◌≡◌, arith, refl}
use Rattle.wire.specs.Bytes.{le}
use Rattle.wire.proofs.ByteLaws.{le_two}
use Rattle.wire.proofs.ChunkLaws.{byte_0, byte_1, byte_2, byte_3}
use Rattle.tables.specs.ContractEntries.{contract_at}
use Rattle.tables.proofs.contracts.contract_of.Goals as goal

pub returns : goal.returns
unfolding contract_at
returns c =
    let s = c.args.entry.now in
    let small = c.fits-entry in
    let w = c.get32.ensures in
    let id : c.from_le_bytes.result ≡ le 2 s 0 =
    omega (
      arith,
      rw c.to_le_bytes.ensures at c.from_le_bytes.ensures,
      byte_0 s small 0 _ w,
      byte_1 s small 0 _ w,
      le_two s 0 1 refl,
    ) in
    rw (c.to_le_bytes.ensures, id, byte_2 s small 0 _ w, byte_3 s small 0 _ w, c.get32-2.ensures) refl
