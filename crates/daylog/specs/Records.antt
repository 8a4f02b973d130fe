-- 01, "Layouts": the records' length, and the fields that stand by themselves (refusal 11).
use Rattle.std.specs.Prelude.{ℕ, Bool, ◌&&◌, ◌||◌, List, eqb, get_or}
use Rattle.wire.specs.Choice.{pick, within}
use Rattle.wire.specs.Bytes.{le}
use Rattle.rules.specs.declared.text.Text.{Text}
use Rattle.rules.specs.Codes.{has_instruction, has_purpose}
use Rattle.rules.specs.Measure.{lots}
use Rattle.daylog.specs.declared.record.Record.{Record}
use Rattle.daylog.specs.Brokers.{has_brokers}

-- "Records of 20 bytes"; 02, K2: "1 reads 24 for version 2 records". Any other version has those of version 1
unfoldable pub record_length : (version : ℕ) → ℕ
record_length version = pick (has_brokers version) 24 20

-- "0 type; 1 zero; 2..3 contract id; 4..7 first account; 8..11 second account; 12..15 lots ..; 16 instruction and 17
-- purpose of the first order; 18 and 19 those of the second"
unfoldable pub record_of : List ℕ → Record
record_of s = record {
  sort = get_or s 0 0;
  spare = get_or s 1 0;
  contract = le 2 s 2;
  first = le 4 s 4;
  second = le 4 s 8;
  lots = lots (le 4 s 12);
  instruction = get_or s 16 0;
  purpose = get_or s 17 0;
  instruction2 = get_or s 18 0;
  purpose2 = get_or s 19 0;
}

abbrev pub order_good : Text → (instruction purpose : ℕ) → Bool
order_good text instruction purpose = has_instruction text instruction && has_purpose text purpose

-- "Type 1 is a trade .. Type 2 is a cancel: bytes 8..11, 18 and 19 are zero"; "lots, 1 to 1,000,000"
unfoldable pub record_good : Text → Record → Bool
record_good text r =
    eqb r.spare 0 && within 1 1000000 r.lots.0 && order_good text r.instruction r.purpose
    && ((eqb r.sort 1 && order_good text r.instruction2 r.purpose2)
    || (eqb r.sort 2 && (eqb r.second 0 && eqb r.instruction2 0 && eqb r.purpose2 0)))

-- "The end record has type 3, the number of records before it in 4..7, and all other bytes zero." 02, K2: "An end
-- record has zero in 20..23", where version 1 has no bytes
unfoldable pub end_good : List ℕ → Bool
end_good row =
    eqb (get_or row 0 0) 3 && eqb (get_or row 1 0) 0 && eqb (le 2 row 2) 0
    && eqb (le 4 row 8) 0 && eqb (le 4 row 12) 0 && eqb (le 4 row 16) 0 && eqb (le 4 row 20) 0
