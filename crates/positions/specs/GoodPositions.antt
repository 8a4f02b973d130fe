-- What is known of a position log, with header h, that has no fault up to its records (proofs/FaultLaws).
use Rattle.std.specs.Prelude.{◌≡◌, true, List, ℕ, ◌≤◌, length}
use Rattle.rules.specs.Codes.{is_rulebook}
use Rattle.calendar.specs.Dates.{real_day}
use Rattle.tables.specs.Accounts.{accounts_good}
use Rattle.daylog.specs.declared.header.Header.{Header}
use Rattle.positions.specs.LimitEntries.{limits_good}
use Rattle.positions.specs.Log.{records_in, log_size, limits_part, accounts_part}

pub record GoodPositions (h : Header) (log : List ℕ) : Type 0 where
  pub known : is_rulebook h.rulebook ≡ true
  pub date : real_day h.date ≡ true
  pub some_contracts : 1 ≤ h.contracts
  pub most_contracts : h.contracts ≤ 32
  pub some_accounts : 1 ≤ h.accounts
  pub most_accounts : h.accounts ≤ 512
  pub most_records : records_in h ≤ 16384
  pub whole : length log ≡ log_size h
  pub limits : limits_good (limits_part h log) ≡ true
  pub accounts : accounts_good (accounts_part h log) ≡ true
