-- A day's tables as the rules see them: how many entries there are, and the one at each place.
use Rattle.std.specs.Prelude.{ℕ, Bool, List, ltb}
use Rattle.rules.specs.declared.text.Text.{Text}
use Rattle.tables.specs.declared.contracts.Contract.{Contract}
use Rattle.tables.specs.declared.accounts.Account.{Account}
use Rattle.tables.specs.Entries.{entries}
use Rattle.tables.specs.Accounts.{account_at, is_in, group_in, has_member}
use Rattle.tables.specs.ContractEntries.{contract_at, contract_place}

pub record Tables : Type 0 where
  pub text : Text
  pub contracts : ℕ
  pub contract : ℕ → Contract
  pub accounts : ℕ
  pub account : ℕ → Account

-- the tables in two lists of bytes
unfoldable pub tables_in : Text → List ℕ → List ℕ → Tables
tables_in text contracts accounts = record {
  text = text;
  contracts = entries contracts;
  contract = contract_at contracts;
  accounts = entries accounts;
  account = account_at accounts;
}

-- ---- what the tables say of a number
-- an account is there; and its group, 0 where it is not
unfoldable pub has_account : Tables → ℕ → Bool
has_account t number = is_in t.account t.accounts number

unfoldable pub group_of : Tables → ℕ → ℕ
group_of t number = group_in t.account t.accounts number

-- the place of a contract, past the table's end where it is not there
unfoldable pub contract_of : Tables → ℕ → ℕ
contract_of t id = contract_place t.contract t.contracts id

unfoldable pub has_contract : Tables → ℕ → Bool
has_contract t id = ltb (contract_of t id) t.contracts

-- the group has a member among the accounts
unfoldable pub member_on : Tables → ℕ → Bool
member_on t group = has_member t.account t.accounts group
