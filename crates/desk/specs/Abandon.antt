-- 01, "The calls and their refusals": "Abandoning closes the day and writes nothing; all closed states are alike."
-- "Abandon: 10."
use Rattle.std.specs.Prelude.{◌≡◌, ℕ, Result, Ok}
use Rattle.wire.specs.Outcomes.{answered, refused}
use Rattle.wire.specs.declared.refusal.Refusal.{Refusal}
use Rattle.desk.specs.declared.state.State.{State}
use Rattle.desk.specs.declared.state.State.TheVariants.{Closed, Open}

abbrev pub abandon_fault : State → ℕ
abandon_fault Closed = 10
abandon_fault (Open day) = 0

unfoldable pub abandon_answer : State → Result State Refusal
abandon_answer state = answered (abandon_fault state) (Ok Closed) refused

-- what `abandon` gives
abbrev pub AbandonGives : State → Result State Refusal → Type 0
AbandonGives state a = a ≡ abandon_answer state
