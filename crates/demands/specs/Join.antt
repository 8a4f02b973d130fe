-- Demand 3, its words: "in every day's table give all accounts of group a the number of group b .., as a change of
-- bytes in the lent tables and of nothing else".
use Rattle.std.specs.Prelude.{◌≡◌, Bool, ◌&&◌, ◌||◌, not, List, ℕ, ◌+◌, ◌*◌, eqb}
use Rattle.daylog.specs.declared.header.Header.{Header}
use Rattle.daylog.specs.declared.record.Record.{Record}
use Rattle.daylog.specs.Header.{header_of}
use Rattle.tables.specs.Tables.{Tables, contract_of, group_of}
use Rattle.joining.specs.Joining.{join_bytes, AccountsJoined}
use Rattle.counts.specs.Counting.{exempt1, exempt2}
use Rattle.years.specs.Days.{how_many}

-- ---- the change of bytes
-- where the account entries of a log, or of a file that begins with its tables, begin, and where they end
abbrev pub accounts_from : Header → ℕ
accounts_from h = 16 + 8 * h.contracts

abbrev pub accounts_to : Header → ℕ
accounts_to h = accounts_from h + 8 * h.accounts

unfoldable pub join_log : (a b : ℕ) → List ℕ → List ℕ
join_log a b log = join_bytes a b (accounts_from (header_of log)) (accounts_to (header_of log)) log

-- ---- what it is for the tables: the groups of accounts change and nothing else does
pub record Joined (a b : ℕ) (t t' : Tables) : Type 0 where
  pub text : t'.text ≡ t.text
  pub contracts : t'.contracts ≡ t.contracts
  pub contract : (k : ℕ) → t'.contract k ≡ t.contract k
  pub accounts : t'.accounts ≡ t.accounts
  pub account : AccountsJoined a b t.account t'.account

-- ---- "the trades between a and b that are not exempt"
unfoldable pub between_for : Tables → Record → (a b place : ℕ) → Bool
between_for t r a b place =
    let e = t.contract (contract_of t r.contract) in
    let one = group_of t r.first in
    let two = group_of t r.second in
    eqb r.sort 1 && not (exempt1 t.text e r 1) && not (exempt2 t.text e r 1)
    && ((eqb one a && eqb two b) || (eqb one b && eqb two a)) && eqb (contract_of t r.contract) place

unfoldable pub between : Tables → List Record → (a b place : ℕ) → ℕ
between t rs a b place = how_many (λ r. between_for t r a b place) rs
