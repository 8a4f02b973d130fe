-- 02, K4: "records of 16 bytes (contract id, two zero bytes, account, long lots, short lots, each up to 1,000,000),
-- strictly rising by contract, then account".
use Rattle.std.specs.Prelude.{ℕ, zero, suc, ◌+◌, ◌*◌, ◌/◌, Bool, ◌&&◌, ◌||◌, List, leb, ltb, eqb, length}
use Rattle.wire.specs.Below.{every}
use Rattle.wire.specs.Bytes.{le}
use Rattle.rules.specs.Measure.{lots}
use Rattle.tables.specs.Entries.{entries}
use Rattle.tables.specs.Accounts.{account_at, is_in}
use Rattle.positions.specs.declared.records.Position.{Position}
use Rattle.positions.specs.LimitEntries.{limit_count, limited_at, limit_place}

-- how many whole records there are
abbrev pub record_count : List ℕ → ℕ
record_count s = length s / 16

-- the record at place k
unfoldable pub position_at : List ℕ → ℕ → Position
position_at s k = record {
  contract = le 2 s (16 * k);
  spare = le 2 s (16 * k + 2);
  account = le 4 s (16 * k + 4);
  long = lots (le 4 s (16 * k + 8));
  short = lots (le 4 s (16 * k + 12));
}

-- contract and account of the record before, 0 before the first
unfoldable pub contract_before : List ℕ → ℕ → ℕ
contract_before s zero = 0
contract_before s (suc k) = (position_at s k).contract

unfoldable pub account_before : List ℕ → ℕ → ℕ
account_before s zero = 0
account_before s (suc k) = (position_at s k).account

-- a record's own fields, after one of this contract and account
abbrev pub fields_good : (contract account : ℕ) → Position → Bool
fields_good contract account r =
    (ltb contract r.contract || (eqb contract r.contract && ltb account r.account)) && eqb r.spare 0
    && leb r.long.0 1000000 && leb r.short.0 1000000

-- ---- with the tables' parts of the log: its contract and its account are there
module _ (contracts accounts records : List ℕ) where
  unfoldable pub good_at : ℕ → Bool
  good_at k =
      let r = position_at records k in
      fields_good (contract_before records k) (account_before records k) r
      && ltb (limit_place (limited_at contracts) (limit_count contracts) r.contract) (limit_count contracts)
      && is_in (account_at accounts) (entries accounts) r.account

  unfoldable pub records_good : Bool
  unfolding good_at
  records_good = every good_at (record_count records)
