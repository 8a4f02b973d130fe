-- A header is read from the first 16 bytes. Assumes nothing.
use mathlib.Core.Path.{◌≡◌}
use mathlib.Core.List.{List}
use Prim.Native.Nat.{ℕ, ◌+◌, ◌<◌}
use native.Mathlib.Omega.{arith}
use lib.ListN.{get_or}
use Rattle.wire.proofs.ByteLaws.{le_cong}
use Rattle.daylog.specs.Header.{header_of}

pub header_same : (s t : List ℕ) → ((i : ℕ) → i < 16 → get_or s i 0 ≡ get_or t i 0) → header_of s ≡ header_of t
unfolding header_of
header_same s t h =
    let version = le_cong 2 s t 4 4 (λ k l. h (4 + k) (omega arith)) in
    let date = le_cong 4 s t 6 6 (λ k l. h (6 + k) (omega arith)) in
    let contracts = le_cong 2 s t 10 10 (λ k l. h (10 + k) (omega arith)) in
    let accounts = le_cong 2 s t 12 12 (λ k l. h (12 + k) (omega arith)) in
    let spare = le_cong 2 s t 14 14 (λ k l. h (14 + k) (omega arith)) in
    rw (h 3 (omega arith), version, date, contracts, accounts, spare)
