-- 02, K4: "A position log, lent whole, has the day log's header with mark "AXP", version 1 and the number of records,
-- up to 16,384, in 14..15; contract entries of 16 bytes ..; the day log's account entries; then records of 16 bytes".
use Rattle.std.specs.Prelude.{ℕ, ◌+◌, ◌*◌, Bool, ◌&&◌, not, List, leb, ltb, eqb, length, take, drop}
use Rattle.wire.specs.Choice.{pick, within, or_else}
use Rattle.calendar.specs.Dates.{real_day}
use Rattle.rules.specs.declared.text.Text.{Text}
use Rattle.rules.specs.Codes.{is_rulebook}
use Rattle.tables.specs.declared.accounts.Account.{Account}
use Rattle.tables.specs.Entries.{entries}
use Rattle.tables.specs.Accounts.{account_at, accounts_good}
use Rattle.daylog.specs.declared.header.Header.{Header}
use Rattle.daylog.specs.Header.{header_of, text_of}
use Rattle.book.specs.Sound.{mark_good}
use Rattle.positions.specs.declared.contracts.Limited.{Limited}
use Rattle.positions.specs.declared.records.Position.{Position}
use Rattle.positions.specs.LimitEntries.{limit_count, limited_at, limits_good}
use Rattle.positions.specs.Records.{record_count, position_at, records_good}

-- bytes 14..15 of the header
abbrev pub records_in : Header → ℕ
records_in h = h.spare

-- the day log's header otherwise, of version 1
abbrev pub head_good : Header → Bool
head_good h =
    eqb h.version 1 && is_rulebook h.rulebook && real_day h.date && within 1 32 h.contracts
    && within 1 512 h.accounts && leb (records_in h) 16384

-- where the accounts begin, where the records begin, and where they end
abbrev pub accounts_from : Header → ℕ
accounts_from h = 16 + 16 * h.contracts

abbrev pub records_from : Header → ℕ
records_from h = accounts_from h + 8 * h.accounts

abbrev pub log_size : Header → ℕ
log_size h = records_from h + 16 * records_in h

-- each part of the log
abbrev pub limits_part : Header → List ℕ → List ℕ
limits_part h log = take (16 * h.contracts) (drop 16 log)

abbrev pub accounts_part : Header → List ℕ → List ℕ
accounts_part h log = take (8 * h.accounts) (drop (accounts_from h) log)

abbrev pub records_part : Header → List ℕ → List ℕ
records_part h log = drop (records_from h) log

-- "The length is exactly what these make", then the tables
unfoldable pub tables_fault : Header → List ℕ → ℕ
tables_fault h log =
    pick (not (eqb (length log) (log_size h))) 22
    (pick (not (limits_good (limits_part h log))) 22
    (pick (not (accounts_good (accounts_part h log))) 22
    0))

-- the log up to its records
unfoldable pub front_fault : List ℕ → ℕ
front_fault log =
    pick (ltb (length log) 16) 22
    (pick (not (mark_good 0x50 log)) 22
    (pick (not (head_good (header_of log))) 22
    (tables_fault (header_of log) log)))

-- "22 for any fault in the position log, length and unknown numbers included"
unfoldable pub log_fault : List ℕ → ℕ
log_fault log =
    let h = header_of log in
    or_else (front_fault log)
    (pick (not (records_good (limits_part h log) (accounts_part h log) (records_part h log))) 22 0)

-- ---- a day's positions as the rules see them: how many entries and records there are, and the one at each place
pub record Positions : Type 0 where
  pub text : Text
  pub contracts : ℕ
  pub contract : ℕ → Limited
  pub accounts : ℕ
  pub account : ℕ → Account
  pub records : ℕ
  pub position : ℕ → Position

unfoldable pub positions_in : Text → (contracts accounts records : List ℕ) → Positions
positions_in text contracts accounts records = record {
  text = text;
  contracts = limit_count contracts;
  contract = limited_at contracts;
  accounts = entries accounts;
  account = account_at accounts;
  records = record_count records;
  position = position_at records;
}

unfoldable pub positions_of : List ℕ → Positions
positions_of log =
    let h = header_of log in
    positions_in (text_of h) (limits_part h log) (accounts_part h log) (records_part h log)
