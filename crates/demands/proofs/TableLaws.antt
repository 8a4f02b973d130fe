-- What is known of the tables in a log without fault: few contracts, groups in range; and of a record that they have.
-- Assumes nothing.
use mathlib.Core.Path.{◌≡◌, refl, sym}
use mathlib.Core.Bool.{false, ◌&&◌}
use mathlib.Core.List.{List}
use Prim.Native.Nat.{ℕ, ◌*◌, ◌≤◌, ◌<◌}
use native.Mathlib.Omega.{arith}
use borrow.Author.Tests.{ltb-true, lt-ltb, ne_eqb, not-false}
use lib.Dec.{eqb, lit<}
use lib.ListN.{drop, length-take}
use Rattle.wire.proofs.ChoiceLaws.{pick_yes, pick_zero, and_no_right}
use Rattle.rules.specs.declared.kinds.Kinds.{Kinds}
use Rattle.rules.specs.declared.kinds.Kinds.TheVariants.{One, Three, Four}
use Rattle.rules.specs.Kinds.{kinds_in, first_kind}
use Rattle.rules.proofs.KindLaws.{kinds_begin}
use Rattle.daylog.specs.declared.record.Record.{Record}
use Rattle.tables.proofs.EntryLaws.{group_at_lem}
use Rattle.daylog.specs.Header.{header_of, accounts_part, log_fault, tables_of}
use Rattle.daylog.specs.Records.{record_of}
use Rattle.tables.specs.Accounts.{account_place, is_in, group_in}
use Rattle.tables.specs.Tables.{Tables, tables_in, contract_of, has_account, has_contract, group_of}
use Rattle.daylog.proofs.FaultLaws.{log_sound}
use Rattle.places.specs.Places.{HasCell}
use Rattle.counts.specs.Counting.{plan_for, plan_of, counts_for, counts_as, fields_fault}
use Rattle.counts.specs.Weigh.{record_fault}
use Rattle.desk.specs.Offences.{kinds_on}

pub record Known (t : Tables) : Type 0 where
  pub few : t.contracts ≤ 32
  pub first_group : (k : ℕ) → k < t.accounts → 1 ≤ (t.account k).group
  pub last_group : (k : ℕ) → k < t.accounts → (t.account k).group ≤ 128

pub known_tables : (log : List ℕ) → log_fault log ≡ 0 → Known (tables_of log)
unfolding tables_of tables_in
known_tables log e =
    let s = log_sound log e in
    let h = header_of log in record {
      few = omega (arith, s.most_contracts, length-take (8 * h.contracts) (drop 16 log));
      first_group = λ k l. (group_at_lem (accounts_part h log) s.accounts k l).0;
      last_group = λ k l. (group_at_lem (accounts_part h log) s.accounts k l).1;
    }

-- ---- a record that the tables have
-- the place of an account, past the table's end where it is not there
abbrev place_of : Tables → ℕ → ℕ
place_of t number = account_place t.account t.accounts number

pub record Has (t : Tables) (r : Record) : Type 0 where
  pub contract : contract_of t r.contract < t.contracts
  pub account : place_of t r.first < t.accounts

-- where nothing is wrong with a record, nothing is wrong with its fields
pub fields_fine : (version : ℕ) (t : Tables) (row : List ℕ) → record_fault version t row ≡ 0
    → fields_fault t (record_of row) ≡ 0
unfolding record_fault
fields_fine version t row e = (pick_zero _ 11 _ (lit< tt) e).1

pub has_record : (t : Tables) (r : Record) → fields_fault t r ≡ 0 → Has t r
unfolding fields_fault has_contract has_account is_in
has_record t r e =
    let e1 = pick_zero _ 11 _ (lit< tt) e in
    let e2 = pick_zero _ 12 _ (lit< tt) e1.1 in
    let e3 = pick_zero _ 13 _ (lit< tt) e2.1 in
    record { contract = ltb-true _ _ (not-false _ e2.0); account = ltb-true _ _ (not-false _ e3.0) }

pub group_is : (t : Tables) (number : ℕ) → place_of t number < t.accounts → group_of t number
    ≡ (t.account (place_of t number)).group
unfolding group_of group_in is_in
group_is t number h = sym (pick_yes _ _ _ _ (lt-ltb (place_of t number) t.accounts h) refl)

-- kinds that begin at 1 have the three as which a record counts
three_kinds : (k : Kinds) → first_kind k ≡ 1 → 3 ≤ kinds_in k
unfolding first_kind kinds_in
three_kinds One e = absurd (omega arith)
three_kinds Three e = omega arith
three_kinds Four e = omega arith

-- its group and its contract's place have cells
pub placed : (t : Tables) → Known t → (r : Record) → Has t r → (k : ℕ) → 1 ≤ k → k ≤ 3
    → HasCell (kinds_on t) (plan_of t r).group k (plan_of t r).place
unfolding plan_of plan_for
placed t o r h k low high =
    let g = group_is t r.first h.account in
    let begin = kinds_begin t.text.rulebook in record {
      row = record {
        first_group = omega (arith, o.first_group (place_of t r.first) h.account);
        last_group = omega (arith, o.last_group (place_of t r.first) h.account);
        least_kind = omega arith;
        last_kind = omega (arith, three_kinds (kinds_on t) begin);
      };
      last_place = omega (arith, o.few, h.contract);
    }

-- and it counts on no place past the contracts
pub none_past : (t : Tables) (r : Record) → Has t r → (group kind place : ℕ) → t.contracts ≤ place
    → counts_for t r group kind place ≡ false
unfolding counts_for plan_of plan_for
none_past t r h group kind place l =
    and_no_right (counts_as (plan_of t r) kind && eqb (plan_of t r).group group) (eqb (contract_of t r.contract) place)
    (ne_eqb (contract_of t r.contract) place (λ e. omega (arith, h.contract)))
