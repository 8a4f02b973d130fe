-- 01, "The calls and their refusals": a record against the tables that are lent with it. "19 (tables), 11, 12, 13".
use Rattle.std.specs.Prelude.{ℕ, List, Result, Ok}
use Rattle.wire.specs.Choice.{pick, or_else}
use Rattle.wire.specs.Outcomes.{answered, refused}
use Rattle.wire.specs.declared.refusal.Refusal.{Refusal}
use Rattle.daylog.specs.declared.header.Header.{Header}
use Rattle.daylog.specs.Header.{tables_of}
use Rattle.daylog.specs.Brokers.{brokers_wrong}
use Rattle.daylog.specs.Records.{record_of}
use Rattle.daylog.specs.Changed.{changed_fault}
use Rattle.tables.specs.Tables.{Tables}
use Rattle.counts.specs.declared.weigh.Plan.{Plan}
use Rattle.counts.specs.declared.weigh.Reasons.{Reasons}
use Rattle.counts.specs.Counting.{plan_of, reasons_of, fields_fault}

-- what the record in a row counts for on the day of a log
abbrev pub plan_in : (log row : List ℕ) → Plan
plan_in log row = plan_of (tables_of log) (record_of row)

-- and the clauses that spare it
abbrev pub reasons_in : (log row : List ℕ) → Reasons
reasons_in log row = reasons_of (tables_of log) (record_of row)

-- a record's refusals, by a log's version and its tables: 11 for its brokers, then 11, 12, 13
unfoldable pub record_fault : (version : ℕ) → Tables → (row : List ℕ) → ℕ
record_fault version t row = pick (brokers_wrong version row) 11 (fields_fault t (record_of row))

-- 19 where the tables are not those of a day with this header, then the record's
unfoldable pub weigh_fault : Header → (log row : List ℕ) → ℕ
weigh_fault head log row = or_else (changed_fault head log) (record_fault head.version (tables_of log) row)

-- what `weigh` gives: what the record counts for and why it was spared, or the refusal
unfoldable pub weighed_on : Header → (log row : List ℕ) → Result (Plan × Reasons) Refusal
weighed_on head log row = answered (weigh_fault head log row) (Ok (plan_in log row, reasons_in log row)) refused
