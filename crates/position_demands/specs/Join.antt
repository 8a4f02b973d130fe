-- Demand 3's words for position logs: "in every day's table give all accounts of group a the number of group b .., as
-- a change of bytes in the lent tables and of nothing else".
use Rattle.std.specs.Prelude.{◌≡◌, List, ℕ}
use Rattle.joining.specs.Joining.{join_bytes, AccountsJoined}
use Rattle.daylog.specs.Header.{header_of}
use Rattle.positions.specs.Log.{accounts_from, records_from, Positions}

-- the account entries of a log stand before its records
unfoldable pub join_log : (a b : ℕ) → List ℕ → List ℕ
join_log a b log = join_bytes a b (accounts_from (header_of log)) (records_from (header_of log)) log

-- what it is for a day's positions: the groups of accounts change and nothing else does
pub record Joined (a b : ℕ) (p p' : Positions) : Type 0 where
  pub text : p'.text ≡ p.text
  pub contracts : p'.contracts ≡ p.contracts
  pub contract : (k : ℕ) → p'.contract k ≡ p.contract k
  pub accounts : p'.accounts ≡ p.accounts
  pub account : AccountsJoined a b p.account p'.account
  pub records : p'.records ≡ p.records
  pub position : (k : ℕ) → p'.position k ≡ p.position k
