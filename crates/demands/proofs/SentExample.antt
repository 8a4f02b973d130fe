-- Version 2's rows by the rules, computed: the theorem to specs/SentExample. Assumes nothing.
use mathlib.Core.Path.{◌≡◌, refl, sym}
use mathlib.Core.Logic.{◌⊎◌, inl, inr}
use mathlib.Core.List.{[], ◌∷◌}
use Prim.Native.Nat.{ℕ, ◌+◌, ◌-◌, ◌<◌, ◌≤◌}
use native.Mathlib.Omega.{arith}
use lib.ListN.{length, get_or}
use Rattle.wire.specs.Choice.{pick, or_else}
use Rattle.wire.specs.Outcomes.{answered}
use Rattle.wire.specs.Below.{first}
use Rattle.wire.specs.Bytes.{le, bytes}
use Rattle.wire.specs.Buffers.{put}
use Rattle.wire.proofs.BufferLaws.{length_put, get_or_put_before, get_or_put_after}
use Rattle.tables.specs.Accounts.{account_at, account_place, is_in}
use Rattle.tables.specs.ContractEntries.{contract_at, contract_place}
use Rattle.tables.specs.Tables.{tables_in, contract_of, has_account, has_contract}
use Rattle.daylog.specs.Brokers.{brokers_of, brokers_wrong}
use Rattle.daylog.specs.Header.{header_of, is_version, tables_of}
use Rattle.daylog.specs.Records.{record_length, record_of, record_good, end_good}
use Rattle.counts.specs.Counting.{fields_fault}
use Rattle.counts.specs.Weigh.{record_fault}
use Rattle.desk.specs.End.{row_fault}
use Rattle.demands.specs.Paper.{Paper, take_number, end_refusal, take_ruled, end_ruled, rule, rules, numbers_on}
use Rattle.demands.specs.Worked.{worked_tables, tables_for, trade_on, end_row}
use Rattle.demands.specs.WhoeverSent.{SameTables, well_sent, whole}
use Rattle.demands.specs.SentExample.{sent_tables, sent_by, cancel_row, sent_opened, sent_steps, SentExample}

numbered : (p : Paper) → numbers_on (sent_opened p) sent_steps ≡ 1 ∷ 11 ∷ 11 ∷ 11 ∷ 11 ∷ 0 ∷ 0 ∷ 1 ∷ 11 ∷ 15 ∷ []
unfolding sent_opened sent_steps sent_tables sent_by cancel_row worked_tables tables_for trade_on end_row put bytes
    numbers_on rules rule take_ruled take_number end_ruled end_refusal row_fault end_good record_fault brokers_wrong
    brokers_of fields_fault has_contract has_account contract_of is_in contract_place account_place record_length
    record_good record_of answered tables_of tables_in header_of contract_at account_at first le or_else pick
numbered p = refl

room : 6 ≤ length worked_tables
unfolding worked_tables tables_for
room = omega arith

tables_bytes : (i : ℕ) → (i < 4) ⊎ (6 ≤ i) → get_or worked_tables i 0 ≡ get_or sent_tables i 0
unfolding sent_tables
tables_bytes i (inl h) = sym (get_or_put_before worked_tables 4 (2 ∷ 0 ∷ []) room i h)
tables_bytes i (inr h) =
    let e : i ≡ 6 + (i - 6) = omega arith in
    rw e (sym (get_or_put_after worked_tables 4 (2 ∷ 0 ∷ []) room (i - 6)))

known : is_version (header_of worked_tables).version ≡ is_version (header_of sent_tables).version
unfolding sent_tables worked_tables tables_for put header_of le
known = refl

tables : SameTables worked_tables sent_tables
unfolding sent_tables
tables = record {
  long = sym (length_put worked_tables 4 (2 ∷ 0 ∷ []) room);
  bytes = tables_bytes;
  known = known;
}

pub sent_example : SentExample
unfolding sent_by cancel_row trade_on end_row bytes record_length well_sent brokers_wrong brokers_of le pick
sent_example = record {
  numbered = numbered;
  tables = tables;
  trade = whole refl refl refl refl refl;
  cancel = whole refl refl refl refl refl;
  end = whole refl refl refl refl refl;
}
