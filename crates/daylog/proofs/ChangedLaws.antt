-- Laws of tables that are still those of the open day. Assumes nothing.
use mathlib.Core.Path.{◌≡◌}
use mathlib.Core.Bool.{true, false, not}
use mathlib.Core.List.{List}
use Prim.Native.Nat.{ℕ}
use borrow.Author.Tests.{eqb-true, not-false}
use lib.Dec.{eqb}
use Rattle.std.proofs.lemmas.Bool.Decides.{nat_tests}
use native.Mathlib.Omega.{arith}
use Rattle.wire.proofs.ChoiceLaws.{or_left, or_right}
use Rattle.daylog.specs.declared.header.Header.{Header}
use Rattle.daylog.specs.Header.{header_of, log_fault}
use Rattle.daylog.specs.GoodLog.{GoodLog}
use Rattle.daylog.specs.Changed.{same_header, tables_changed}
use Rattle.daylog.proofs.FaultLaws.{log_sound}

-- a header is its six fields
pub same_header_lem : (a b : Header) → same_header a b ≡ true → a ≡ b
unfolding same_header
same_header_lem a b e = grind (arith, nat_tests)

pub unchanged : (head : Header) (log : List ℕ) → tables_changed head log ≡ false
    → (head ≡ header_of log) × (log_fault log ≡ 0)
unfolding tables_changed
unchanged head log e =
    let same = same_header head (header_of log) in
    let clean = eqb (log_fault log) 0 in (
      same_header_lem head (header_of log) (not-false same (or_left (not same) (not clean) e)),
      eqb-true _ _ (not-false clean (or_right (not same) (not clean) e)),
    )

-- so they are the day's, and good
pub still_good : (head : Header) (log : List ℕ) → tables_changed head log ≡ false → (head ≡ header_of log)
    × GoodLog head log
still_good head log e = let u = unchanged head log e in (u.0, rw u.0 (log_sound log u.1))
