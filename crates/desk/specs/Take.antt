-- 01, "The calls and their refusals": taking a record. "Take: 10, 1, 16, 19 (tables), 11, 12, 13, 14, 19 (cells)." With
-- 02, K5: it passes on the clauses that spared the record's orders, "a refusal passes on no clause".
use Rattle.std.specs.Prelude.{ℕ, ◌+◌, not, List, ltb, eqb, length, Result, Ok}
use Rattle.wire.specs.Choice.{pick, or_else}
use Rattle.wire.specs.Outcomes.{answered, refused, Outcome}
use Rattle.wire.specs.declared.refusal.Refusal.{Refusal}
use Rattle.daylog.specs.Header.{header_of}
use Rattle.daylog.specs.Records.{record_length}
use Rattle.places.specs.Places.{cells}
use Rattle.desk.specs.declared.state.Day.{Day}
use Rattle.desk.specs.declared.state.State.{State}
use Rattle.desk.specs.declared.state.State.TheVariants.{Closed, Open}
use Rattle.counts.specs.declared.weigh.Plan.{Plan}
use Rattle.counts.specs.declared.weigh.Reasons.{Reasons}
use Rattle.counts.specs.Weigh.{plan_in, reasons_in, weigh_fault}
use Rattle.counts.specs.Cells.{plan_fault, raised}
use Rattle.desk.specs.Open.{kinds_for}

-- what the call is handed: "1: .. a record not 20", or 24 by the version of the open day (02, K2); "16: counts buffer
-- under 12,288"
unfoldable pub sizes_fault : Day → List ℕ → (len : ℕ) → ℕ
sizes_fault day row len =
    pick (not (eqb (length row) (record_length day.head.version))) 1
    (pick (ltb len (cells (kinds_for day.head))) 16
    0)

-- then 19 (tables), 11, 12, 13
unfoldable pub held_fault : Day → (log row : List ℕ) → (len : ℕ) → ℕ
held_fault day log row len = or_else (sizes_fault day row len) (weigh_fault day.head log row)

-- then 14, 19 (cells): of an open day
unfoldable pub day_fault : Day → (log row c : List ℕ) → ℕ
day_fault day log row c =
    or_else (held_fault day log row (length c)) (plan_fault (kinds_for day.head) day.taken (plan_in log row) c)

-- the number of the refusal, or 0
unfoldable pub take_fault : State → (log row c : List ℕ) → ℕ
take_fault Closed log row c = 10
take_fault (Open day) log row c = day_fault day log row c

-- what `would_take` gives: what the record would count for and why it is spared, or the refusal
unfoldable pub would_take : State → (log row c : List ℕ) → Result (Plan × Reasons) Refusal
would_take state log row c =
    answered (take_fault state log row c) (Ok (plan_in log row, reasons_in log row)) refused

-- the same of an open day, before the counts are looked at
unfoldable pub day_weighed : Day → (log row : List ℕ) → (len : ℕ) → Result (Plan × Reasons) Refusal
day_weighed day log row len =
    answered (held_fault day log row len) (Ok (plan_in log row, reasons_in log row)) refused

-- one more record is taken
abbrev pub one_more : Day → Day
one_more day = record { head = day.head; taken = day.taken + 1 }

abbrev pub take_next : State → State
take_next Closed = Closed
take_next (Open day) = Open (one_more day)

-- a record of an open day that counts by a plan: the day with one more and the clauses, or 14 or 19, and the counts
abbrev pub PlanTaken : Day → Plan → Reasons → List ℕ → Result (State × Reasons) Refusal → List ℕ → Type 0
PlanTaken day p why c =
    let kinds = kinds_for day.head in
    Outcome (plan_fault kinds day.taken p c) (Ok (Open (one_more day), why)) refused (raised kinds p c) c

-- what `take` gives: the next state with the clauses or the refusal, and the counts
abbrev pub TakeGives : State → (log row c : List ℕ) → Result (State × Reasons) Refusal → List ℕ → Type 0
TakeGives state log row c =
    Outcome (take_fault state log row c) (Ok (take_next state, reasons_in log row)) refused
    (raised (kinds_for (header_of log)) (plan_in log row) c) c
