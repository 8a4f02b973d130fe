-- The way, not the meaning: both sides' sums (specs/Way) as they are lent, over all records. What is held is `held_of`,
-- specs/Offences.
use Rattle.std.specs.Prelude.{ℕ, List}
use Rattle.daylog.specs.declared.header.Header.{Header}
use Rattle.positions.specs.declared.sums.Sums.{Sums}
use Rattle.positions.specs.Records.{record_count}
use Rattle.positions.specs.Log.{limits_part, accounts_part, records_part}
use Rattle.positions.specs.Way.{long_to, short_to}

abbrev pub sums_of : (contracts accounts records : List ℕ) → Sums
sums_of contracts accounts records = record {
  longs = long_to contracts accounts records (record_count records);
  shorts = short_to contracts accounts records (record_count records);
}

abbrev pub sums_in : Header → List ℕ → Sums
sums_in h log = sums_of (limits_part h log) (accounts_part h log) (records_part h log)
