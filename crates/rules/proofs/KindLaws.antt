-- How many kinds there are, and where their numbers begin, of any rulebook. Assumes nothing.
use mathlib.Core.Path.{◌≡◌, refl}
use Prim.Native.Nat.{ℕ, ◌≤◌}
use native.Mathlib.Omega.{arith}
use Rattle.rules.specs.declared.kinds.Kinds.{Kinds}
use Rattle.rules.specs.declared.kinds.Kinds.TheVariants.{One, Three, Four}
use Rattle.rules.specs.Kinds.{kinds_of, most_kinds, kinds_in, first_kind}

pub few : (k : Kinds) → (1 ≤ kinds_in k) × (kinds_in k ≤ 4)
unfolding kinds_in
few One = (omega arith, omega arith)
few Three = (omega arith, omega arith)
few Four = (omega arith, omega arith)

pub first_low : (k : Kinds) → (1 ≤ first_kind k) × (first_kind k ≤ 5)
unfolding first_kind
first_low One = (omega arith, omega arith)
first_low Three = (omega arith, omega arith)
first_low Four = (omega arith, omega arith)

-- buffers for the most kinds serve every rulebook
pub kinds_most : (rulebook : ℕ) → kinds_in (kinds_of rulebook) ≤ most_kinds
unfolding kinds_of kinds_in most_kinds
kinds_most rulebook = omega arith

-- a rulebook's own kinds begin at 1: the one that goes by 5 is no rulebook's
pub kinds_begin : (rulebook : ℕ) → first_kind (kinds_of rulebook) ≡ 1
unfolding kinds_of first_kind
kinds_begin rulebook = refl
