-- What is known of a log, with header h, in which opening's checks 1 to 8 find no fault (proofs/FaultLaws,
-- `log_sound`).
use Rattle.std.specs.Prelude.{◌≡◌, true, List, ℕ, ◌+◌, ◌*◌, ◌≤◌, length}
use Rattle.rules.specs.Codes.{is_rulebook}
use Rattle.calendar.specs.Dates.{real_day}
use Rattle.daylog.specs.declared.header.Header.{Header}
use Rattle.daylog.specs.Header.{is_version, text_of, contracts_part, accounts_part}
use Rattle.tables.specs.ContractEntries.{contracts_good}
use Rattle.tables.specs.Accounts.{accounts_good}

pub record GoodLog (h : Header) (log : List ℕ) : Type 0 where
  pub version : is_version h.version ≡ true
  pub known : is_rulebook h.rulebook ≡ true
  pub date : real_day h.date ≡ true
  pub some_contracts : 1 ≤ h.contracts
  pub most_contracts : h.contracts ≤ 32
  pub some_accounts : 1 ≤ h.accounts
  pub most_accounts : h.accounts ≤ 512
  pub spare : h.spare ≡ 0
  pub long : 16 ≤ length log
  pub whole : length log ≡ 16 + 8 * h.contracts + 8 * h.accounts
  pub contracts : contracts_good (text_of h) (contracts_part h log) ≡ true
  pub accounts : accounts_good (accounts_part h log) ≡ true
