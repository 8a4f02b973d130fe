-- A whole file as the clerk reads it, with group a joined to group b in its tables: its tables are the file's,
-- joined, and its rows are the file's. Assumes nothing.
use mathlib.Core.Path.{◌≡◌, sym, ap, ap₂, ◌∙◌}
use mathlib.Core.List.{List}
use Prim.Native.Nat.{ℕ, ◌+◌, ◌*◌, ◌≤◌}
use native.Mathlib.Omega.{arith}
use lib.ListN.{length, take, drop, length-take}
use lib.Seq.{get_or-take}
use Rattle.wire.proofs.ChoiceLaws.{pick_least}
use Rattle.daylog.specs.declared.header.Header.{Header}
use Rattle.daylog.specs.Header.{header_of, log_fault}
use Rattle.daylog.specs.Records.{record_length}
use Rattle.daylog.specs.Rows.{front_size, front, row_size, pieces, rows_of}
use Rattle.daylog.proofs.FaultLaws.{log_sound}
use Rattle.joining.specs.Joining.{join_bytes}
use Rattle.joining.proofs.JoiningLaws.{join_take, rest_stands}
use Rattle.demands.specs.Join.{accounts_from, accounts_to, join_log}
use Rattle.daylog.proofs.HeaderLaws.{header_same}
use Rattle.demands.proofs.JoinTables.{length_stands, header_stands}

-- ---- the front of a file has its header
size_least : (log : List ℕ) → 16 ≤ front_size log
unfolding front_size
size_least log = pick_least _ 16 _ 16 (omega arith) (omega arith)

pub front_head : (log : List ℕ) → header_of (front log) ≡ header_of log
front_head log = header_same (front log) log
    (λ i h. get_or-take (front_size log) log i 0 (omega (arith, size_least log)))

-- ---- the front of a joined file
module _ (a b : ℕ) (log : List ℕ) (some : 1 ≤ a) where
  size_joined : front_size (join_log a b log) ≡ front_size log
  unfolding front_size
  size_joined = rw (header_stands a b log some)

  pub front_joined : front (join_log a b log) ≡ join_log a b (front log)
  unfolding join_log
  front_joined =
      ap (λ (n : ℕ). take n (join_log a b log)) size_joined
      ∙ join_take a b _ _ (front_size log) log
      ∙ ap (λ (h : Header). join_bytes a b (accounts_from h) (accounts_to h) (front log)) (sym (front_head log))

  -- ---- and what comes after it
  after_joined : (n : ℕ) → 16 + 8 * (header_of log).contracts + 8 * (header_of log).accounts ≤ n
      → drop n (join_log a b log) ≡ drop n log
  unfolding join_log
  after_joined n h = rest_stands a b _ _ log some n h

  pub rows_joined : log_fault (front log) ≡ 0 → rows_of (join_log a b log) ≡ rows_of log
  rows_joined e =
      let n = front_size log in
      let whole : length (front log) ≡ 16 + 8 * (header_of log).contracts + 8 * (header_of log).accounts =
      rw front_head at (log_sound (front log) e).whole in
      let j = join_log a b log in
      ap (λ (h : Header). pieces (record_length h.version) (length j) (drop (front_size j) j))
      (header_stands a b log some)
      ∙ ap₂ (pieces (row_size log)) (length_stands a b log some)
      (ap (λ (m : ℕ). drop m (join_log a b log)) size_joined ∙ after_joined n (omega (arith, whole, length-take n log)))
