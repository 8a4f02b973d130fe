-- On sound tables contracts stand by rising id, so the lowest place is the lowest id. Assumes nothing.
use mathlib.Core.Path.{◌≡◌}
use mathlib.Core.Logic.{⊎_elim}
use mathlib.Core.Bool.{true, ◌&&◌}
use mathlib.Core.List.{List}
use Prim.Native.Nat.{ℕ, zero, suc, ◌≤◌, ◌<◌}
use native.Mathlib.Nat.{le_of_suc-le-suc, eq-or-lt_of_le, lt_of_not-le}
use native.Mathlib.Omega.{arith}
use borrow.Author.Tests.{ltb-true}
use lib.Dec.{leb, ltb}
use Rattle.wire.specs.Choice.{within}
use Rattle.wire.proofs.ChoiceLaws.{and_left}
use Rattle.wire.proofs.BelowLaws.{every_at, first_below}
use Rattle.rules.specs.declared.text.Text.{Text}
use Rattle.rules.specs.Codes.{has_type}
use Rattle.tables.specs.declared.contracts.Contract.{Contract}
use Rattle.tables.specs.ContractEntries.{contract_at, id_before, contract_good, contract_good_at, contracts_good}
use Rattle.tables.specs.Entries.{entries}
use Rattle.daylog.specs.Header.{header_of, text_of, contracts_part, log_fault, tables_of}
use Rattle.tables.specs.Tables.{tables_in}
use Rattle.daylog.proofs.FaultLaws.{log_sound}
use Rattle.desk.specs.Offences.{lowest_on}
use Rattle.demands.specs.Counts.{times_on, reaches_at}
use Rattle.demands.specs.Demand2.{LowestId}
use Rattle.demands.proofs.ListedLaws.{lowest_is}

-- ---- a contract of a later place has a higher id
id_above : (text : Text) (before : ℕ) (e : Contract) → contract_good text before e ≡ true → before < e.id
id_above text before e h =
    let rises = ltb before e.id in
    let type = has_type text e.sort in
    let product = leb e.product 15 in
    let largest = within 1 1000000 e.largest.0 in
    ltb-true before e.id
    (and_left rises type (and_left (rises && type) product (and_left (rises && type && product) largest h)))

module _ (text : Text) (s : List ℕ) (good : contracts_good text s ≡ true) where
  above : (k : ℕ) → k < entries s → id_before s k < (contract_at s k).id
  unfolding contracts_good
  above k l = id_above text (id_before s k) (contract_at s k) (every_at (contract_good_at text s) (entries s) k good l)

  rising : (j k : ℕ) → j ≤ k → k < entries s → (contract_at s j).id ≤ (contract_at s k).id
  unfolding id_before
  rising j zero h l = let e : j ≡ 0 = omega arith in rw e (omega arith)
  rising j (suc k) h l =
      ⊎_elim (λ (e : j ≡ suc k). rw e (omega arith))
      (λ (m : j < suc k). omega (arith, rising j k (le_of_suc-le-suc m) (omega arith), above (suc k) l))
      (eq-or-lt_of_le h)

ids_rise : (log : List ℕ) → log_fault log ≡ 0 → (j k : ℕ) → j ≤ k → k < (tables_of log).contracts
    → ((tables_of log).contract j).id ≤ ((tables_of log).contract k).id
unfolding tables_of tables_in
ids_rise log e = rising (text_of (header_of log)) (contracts_part (header_of log) log) (log_sound log e).contracts

-- ---- so a place with a lower id stands before the lowest that reached the number
pub lowest_id : LowestId
lowest_id log rs ladder place e there lower =
    let t = tables_of log in
    let lowest = lowest_on t (times_on t rs) ladder in
    let before : place < lowest =
    lt_of_not-le (λ (l : lowest ≤ place). omega (arith, ids_rise log e lowest place l there)) in
    first_below (reaches_at t rs ladder) t.contracts place (omega (arith, lowest_is t rs ladder))
