-- Joining group a to group b in a log changes the groups of its account entries and nothing else: its header, its
-- length and its contracts stand, and opening's checks find the same fault in it, or again none. Assumes nothing.
use mathlib.Core.Path.{◌≡◌, refl, ap}
use mathlib.Core.Bool.{not}
use mathlib.Core.List.{List}
use Prim.Native.Nat.{ℕ, ◌+◌, ◌*◌, ◌≤◌, ◌<◌}
use native.Mathlib.Omega.{arith}
use borrow.Author.Tests.{eqb-true, not-false}
use lib.Dec.{eqb}
use lib.ListN.{length, get_or, drop, length-drop}
use lib.Seq.{take_all}
use Rattle.tables.specs.Accounts.{accounts_good}
use Rattle.tables.specs.ContractEntries.{contract_at}
use Rattle.tables.specs.Entries.{entries}
use Rattle.joining.specs.Joining.{accounts_in, PartJoined}
use Rattle.joining.proofs.JoiningLaws.{join_length, join_before, part_joined, pick_after}
use Rattle.daylog.specs.Header.{header_of, log_marked, contracts_part, accounts_part, entries_fault, head_fault}
use Rattle.daylog.specs.Header.{log_fault}
use Rattle.daylog.specs.Header.{tables_of}
use Rattle.tables.specs.Tables.{tables_in}
use Rattle.daylog.proofs.FaultLaws.{log_sound}
use Rattle.daylog.proofs.HeaderLaws.{header_same}
use Rattle.demands.specs.Join.{accounts_from, join_log, Joined}

mark_same : (s t : List ℕ) → ((i : ℕ) → i < 16 → get_or s i 0 ≡ get_or t i 0) → log_marked s ≡ log_marked t
mark_same s t h = rw (h 0 (omega arith), h 1 (omega arith), h 2 (omega arith))

module _ (a b : ℕ) (log : List ℕ) (some : 1 ≤ a) where
  before : (i : ℕ) → i < 16 → get_or (join_log a b log) i 0 ≡ get_or log i 0
  unfolding join_log
  before i h = join_before a b _ _ log some i (omega arith)

  pub length_stands : length (join_log a b log) ≡ length log
  unfolding join_log
  length_stands = join_length a b _ _ log

  pub header_stands : header_of (join_log a b log) ≡ header_of log
  header_stands = header_same (join_log a b log) log before

  mark_stands : log_marked (join_log a b log) ≡ log_marked log
  mark_stands = mark_same (join_log a b log) log before

  module _ (most : a ≤ 128) (low : 1 ≤ b) (high : b ≤ 128) where
    part : PartJoined a b (accounts_from (header_of log)) (header_of log).accounts log (join_log a b log)
    unfolding join_log
    part = part_joined a b _ _ log some most low high

    contracts_stand : contracts_part (header_of log) (join_log a b log) ≡ contracts_part (header_of log) log
    contracts_stand = part.part 16 (8 * (header_of log).contracts) (omega arith)

    -- ---- a log that is as long as its header says ends with its accounts
    module _ (whole : length log ≡ 16 + 8 * (header_of log).contracts + 8 * (header_of log).accounts) where
      ends : (s : List ℕ) → length s ≡ length log
          → accounts_in (accounts_from (header_of log)) (header_of log).accounts s ≡ accounts_part (header_of log) s
      ends s e =
          let from = accounts_from (header_of log) in
          take_all (8 * (header_of log).accounts) (drop from s) (omega (arith, length-drop from s))

      tables_joined : Joined a b (tables_of log) (tables_of (join_log a b log))
      unfolding tables_of tables_in
      tables_joined = rw header_stands (record {
        text = refl;
        contracts = ap entries contracts_stand;
        contract = λ k. ap (λ (s : List ℕ). contract_at s k) contracts_stand;
        accounts = rw (ends (join_log a b log) length_stands, ends log refl) at part.count;
        account = rw (ends (join_log a b log) length_stands, ends log refl) at part.accounts;
      })

      accounts_same : accounts_good (accounts_part (header_of log) (join_log a b log))
          ≡ accounts_good (accounts_part (header_of log) log)
      accounts_same = rw (ends (join_log a b log) length_stands, ends log refl) at part.good

    -- ---- the same fault
    tables_same : entries_fault (header_of log) (join_log a b log) ≡ entries_fault (header_of log) log
    unfolding entries_fault
    tables_same =
        let h = header_of log in
        let n = 16 + 8 * h.contracts + 8 * h.accounts in
        rw (length_stands, contracts_stand) (pick_after (not (eqb (length log) n)) 1 _ _
        (λ e. rw (accounts_same (eqb-true (length log) n (not-false _ e)))))

    fault_same : log_fault (join_log a b log) ≡ log_fault log
    unfolding log_fault head_fault
    fault_same = rw (length_stands, mark_stands, header_stands, tables_same)

pub record JoinedLog (a b : ℕ) (log : List ℕ) : Type 0 where
  pub fault : log_fault (join_log a b log) ≡ log_fault log
  pub head : header_of (join_log a b log) ≡ header_of log
  pub tables : log_fault log ≡ 0 → Joined a b (tables_of log) (tables_of (join_log a b log))

pub joined_log : (a b : ℕ) (log : List ℕ) → 1 ≤ a → a ≤ 128 → 1 ≤ b → b ≤ 128 → JoinedLog a b log
joined_log a b log some most low high = record {
  fault = fault_same a b log some most low high;
  head = header_stands a b log some;
  tables = λ e. tables_joined a b log some most low high (log_sound log e).whole;
}
