-- 02, K4: "contract entries of 16 bytes (id, type 1, product, today's limit in 4..7, the previous day's in 8..11, each
-- 1 to 1,000,000,000, then zero)".
use Rattle.std.specs.Prelude.{ℕ, zero, suc, ◌+◌, ◌*◌, ◌/◌, Bool, ◌&&◌, List, leb, ltb, eqb, length, get_or}
use Rattle.wire.specs.Choice.{within}
use Rattle.wire.specs.Below.{every, first}
use Rattle.wire.specs.Bytes.{le}
use Rattle.rules.specs.Measure.{lots}
use Rattle.positions.specs.declared.contracts.Limited.{Limited}

-- how many whole entries a table has
abbrev pub limit_count : List ℕ → ℕ
limit_count s = length s / 16

-- the entry at place k of a table
unfoldable pub limited_at : List ℕ → ℕ → Limited
limited_at s k = record {
  id = le 2 s (16 * k);
  sort = get_or s (16 * k + 2) 0;
  product = get_or s (16 * k + 3) 0;
  today = lots (le 4 s (16 * k + 4));
  previous = lots (le 4 s (16 * k + 8));
  spare = le 4 s (16 * k + 12);
}

-- "ids not zero and strictly rising" is above the one before, with 0 before the first
unfoldable pub id_before : List ℕ → ℕ → ℕ
id_before s zero = 0
id_before s (suc k) = (limited_at s k).id

-- the product is 0 to 15 in both rulebooks
abbrev pub limited_good : ℕ → Limited → Bool
limited_good before e =
    ltb before e.id && eqb e.sort 1 && leb e.product 15 && within 1 1000000000 e.today.0
    && within 1 1000000000 e.previous.0 && eqb e.spare 0

abbrev pub limited_good_at : List ℕ → ℕ → Bool
limited_good_at s k = limited_good (id_before s k) (limited_at s k)

unfoldable pub limits_good : List ℕ → Bool
limits_good s = every (limited_good_at s) (limit_count s)

-- the place of a contract id, or the number of entries where it is not there
unfoldable pub limit_place : (ℕ → Limited) → (contracts id : ℕ) → ℕ
limit_place contract contracts id = first (λ k. eqb (contract k).id id) contracts
