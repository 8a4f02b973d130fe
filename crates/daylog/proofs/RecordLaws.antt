-- How long a record is at least, in any version. Assumes nothing.
use mathlib.Core.Path.{◌≡◌}
use Prim.Native.Nat.{ℕ, ◌≤◌}
use native.Mathlib.Omega.{arith}
use Rattle.wire.proofs.ChoiceLaws.{pick_least}
use Rattle.daylog.specs.Brokers.{has_brokers}
use Rattle.daylog.specs.Records.{record_length}

pub some_bytes : (size version : ℕ) → size ≡ record_length version → 1 ≤ size
unfolding record_length
some_bytes size version e = omega (arith, e, pick_least (has_brokers version) 1 24 20 (omega arith) (omega arith))
