-- What is known where a call is handed what it needs: of the tables, and of the room for the counts. Assumes nothing.
use mathlib.Core.Path.{◌≡◌, refl}
use mathlib.Core.List.{List}
use Prim.Native.Nat.{ℕ, ◌≤◌}
use native.Mathlib.Omega.{arith}
use borrow.Author.Tests.{ltb-false}
use lib.Dec.{lit<, ltb}
use Rattle.wire.specs.Choice.{pick}
use Rattle.wire.proofs.ChoiceLaws.{pick_zero, or_none}
use Rattle.rules.specs.declared.kinds.Kinds.{Kinds}
use Rattle.daylog.specs.declared.header.Header.{Header}
use Rattle.daylog.specs.Header.{header_of, log_fault}
use Rattle.daylog.specs.GoodLog.{GoodLog}
use Rattle.daylog.specs.Changed.{changed_fault}
use Rattle.daylog.proofs.ChangedLaws.{still_good}
use Rattle.places.specs.Places.{cells}
use Rattle.book.specs.Fits.{book_fault}
use Rattle.desk.specs.declared.state.Day.{Day}
use Rattle.desk.specs.declared.state.State.{State}
use Rattle.desk.specs.declared.state.State.TheVariants.{Closed, Open}
use Rattle.counts.specs.Weigh.{weigh_fault}
use Rattle.desk.specs.Open.{kinds_for, few_fault, handed_fault, open_fault}
use Rattle.desk.specs.Take.{sizes_fault, held_fault}
use Rattle.wire.proofs.ChosenLaws.{chosen}

-- ---- a call on an open day
-- a call that is handed enough counts has room for every cell
pub room_sized : (day : Day) (row : List ℕ) (len : ℕ) → sizes_fault day row len ≡ 0 → cells (kinds_for day.head) ≤ len
unfolding sizes_fault
room_sized day row len e = ltb-false _ _ (pick_zero _ 16 _ (lit< tt) (pick_zero _ 1 _ (lit< tt) e).1).0

-- tables that bring no refusal are still those of the day, and good
pub sound_tables : (head : Header) (log : List ℕ) → changed_fault head log ≡ 0 → (head ≡ header_of log)
    × GoodLog head log
sound_tables head log e = still_good head log (pick_zero _ 19 _ (lit< tt) e).0

-- so a record that is weighed is of the day's log
pub held_head : (day : Day) (log row : List ℕ) (len : ℕ) → held_fault day log row len ≡ 0 → day.head ≡ header_of log
unfolding held_fault weigh_fault
held_head day log row len e =
    let weighed = (or_none _ _ e).1 in
    (sound_tables day.head log (or_none (changed_fault day.head log) _ weighed).0).0

-- ---- opening
-- an opening that is not refused has room for every cell
pub room_there : (log book : List ℕ) (len : ℕ) → handed_fault log book len ≡ 0 → cells (kinds_for (header_of log)) ≤ len
unfolding handed_fault few_fault
room_there log book len e =
    let h = header_of log in
    let e1 = or_none (log_fault log) _ e in
    let e2 = or_none (book_fault h.rulebook h.date book) (few_fault (kinds_for h) len) e1.1 in
    ltb-false _ _ (pick_zero _ 16 0 (lit< tt) e2.1).0

-- the same in any state: with a day open it would be refused
pub room_opened : (state : State) (log book : List ℕ) (len : ℕ) → open_fault state log book len ≡ 0
    → cells (kinds_for (header_of log)) ≤ len
unfolding open_fault
room_opened Closed log book len e = room_there log book len e
room_opened (Open day) log book len e = absurd (omega arith)

-- what opening gives: by the number of its refusal, the room for the counts among them
pub few_is : (kinds : Kinds) (len : ℕ) → few_fault kinds len ≡ pick (ltb len (cells kinds)) 16 0
unfolding few_fault
few_is kinds len = refl

pub ruleset opening = (chosen, few_is)
