-- Laws of ending a day: what is known where the call is handed what it needs, and the answer by what settling gives.
-- Assumes nothing.
use mathlib.Core.Path.{◌≡◌, refl, sym, ap, ◌∙◌}
use mathlib.Core.List.{List}
use Prim.Native.Nat.{ℕ, ◌*◌, ◌^◌, ◌≤◌, ◌<◌}
use native.Mathlib.Omega.{arith}
use borrow.Author.Tests.{lt-ltb, le-ltb}
use lib.ListN.{length, get_or}
use Rattle.std.specs.Prelude.{Result, Ok, Err, ⊤}
use Rattle.wire.specs.declared.refusal.Refusal.{Refusal}
use Rattle.wire.specs.declared.refusal.Refusal.TheVariants.{FindingsShort}
use Rattle.wire.specs.Outcomes.{answered, refused, checked}
use Rattle.tables.specs.Tables.{Tables}
use Rattle.wire.proofs.ChoiceLaws.{or_else_lem, or_none, pick_yes, pick_no}
use Rattle.wire.proofs.BelowLaws.{count_le}
use Rattle.rules.specs.declared.kinds.Kinds.{Kinds}
use Rattle.rules.proofs.KindLaws.{few}
use Rattle.wire.proofs.AnswerLaws.{outcome_map, answer_done}
use Rattle.wire.proofs.RefusalLaws.{refuse, accepted}
use Rattle.daylog.specs.Header.{header_of, tables_of}
use Rattle.daylog.specs.GoodLog.{GoodLog}
use Rattle.places.specs.Places.{ladders, book_size, cells}
use Rattle.posting.specs.Raise.{hit_at}
use Rattle.book.specs.Shape.{day_shape, shape_of}
use Rattle.book.specs.Fits.{book_fault}
use Rattle.book.proofs.FitsLaws.{Fits, fits}
use Rattle.verdict.specs.Verdict.{found_count, found_in}
use Rattle.verdict.specs.Settle.{short_fault, SettleGives}
use Rattle.verdict.proofs.SettleLaws.{long_fault}
use Rattle.verdict.proofs.SameVerdict.{settle_same}
use Rattle.desk.specs.declared.state.Day.{Day}
use Rattle.desk.specs.declared.state.State.{State}
use Rattle.desk.specs.declared.state.State.TheVariants.{Closed}
use Rattle.desk.specs.Open.{kinds_for}
use Rattle.desk.specs.Take.{sizes_fault}
use Rattle.desk.specs.Offences.{kinds_on, verdict_on}
use Rattle.desk.specs.Way.{day_places}
use Rattle.desk.specs.End.{call_fault, row_fault, lent_fault, cells_fault, cell_verdict, counts_fault, day_found}
use Rattle.desk.specs.End.{DayEnds}
use Rattle.wire.proofs.ChosenLaws.{chosen}
use Rattle.desk.proofs.HandedLaws.{room_sized, sound_tables}
use Rattle.desk.proofs.VerdictLaws.{day_bytes, day_same, kinds_are, count_same}

-- no more ladders have an offence than there are
pub found_low : (kinds : Kinds) (places : List ℕ) (contracts n : ℕ) → n ≡ found_in kinds places contracts
    → 8 * n < 2 ^ 64
unfolding found_in
found_low kinds places contracts n e = omega (arith, count_le (hit_at places contracts) (ladders kinds), few kinds)

-- ---- what is known where ending is lent what it needs
pub record Lent (day : Day) (log book : List ℕ) (len : ℕ) : Type 0 where
  pub head : day.head ≡ header_of log
  pub tables : GoodLog day.head log
  pub fit : Fits (day_shape day.head.rulebook) day.head.rulebook day.head.date book
  pub counts_long : cells (kinds_for day.head) ≤ len

-- a book that fits has the shape of the day's rulebook
fits_day : (rulebook date : ℕ) (book : List ℕ) → book_fault rulebook date book ≡ 0
    → Fits (day_shape rulebook) rulebook date book
fits_day rulebook date book e =
    let f : Fits (shape_of book) rulebook date book = fits (shape_of book) rulebook date book e in
    rw f.same at f

pub lent : (day : Day) (log row book : List ℕ) (len : ℕ) {a : ⊤} → Ok a ≡ checked (lent_fault day log row book len)
    → Lent day log book len
unfolding lent_fault call_fault
lent day log row book len {a} ok =
    let e = (accepted (lent_fault day log row book len) tt ok).0 in
    let e1 = or_none (call_fault day log row len) _ e in
    let e2 = or_none (row_fault day row) _ e1.1 in
    let call = or_none (sizes_fault day row len) _ e1.0 in
    let sound = sound_tables day.head log call.1 in record {
      head = sound.0;
      tables = sound.1;
      fit = fits_day day.head.rulebook day.head.date book e2.1;
      counts_long = room_sized day row len call.0;
    }

-- the day's book has its length
pub book_long : (day : Day) (log book : List ℕ) (len : ℕ) → Lent day log book len → length book
    ≡ book_size (kinds_for day.head)
unfolding day_shape
book_long day log book len h = h.fit.facts.long

-- ---- settling's answer in ending's words
abbrev pub ended_by : Result ℕ Refusal → Result (State × ℕ) Refusal
ended_by (Ok n) = Ok (Closed, n)
ended_by (Err why) = Err why

module _ (day : Day) (log c : List ℕ) (e : day.head ≡ header_of log) (good : GoodLog day.head log)
    (small : (j : ℕ) → get_or log j 0 < 256) (none : cells_fault (kinds_for day.head) day.taken c ≡ 0) where
  -- the cells have no fault: the findings' room decides
  pub room_decides : (room : ℕ) → short_fault (cell_verdict (tables_of log) c) room ≡ counts_fault day
      (tables_of log) c room
  unfolding counts_fault
  room_decides room =
      sym (or_else_lem (cells_fault (kinds_on (tables_of log)) day.taken c) _
      (rw (← kinds_are day.head log c e good) none))

  pub ended_by_lem : (book out : List ℕ) → length book ≡ book_size (kinds_for day.head)
      → {a : Result ℕ Refusal} {b o : List ℕ}
      → SettleGives (day_bytes day.head log c e good) day.head.date book out a b o
      → DayEnds (counts_fault day (tables_of log) c (length out)) day.head.date (tables_of log) book c out
      (ended_by a) b o
  unfolding verdict_on day_shape
  ended_by_lem book out long g =
      rw (
        ← room_decides (length out),
        ← long_fault (cell_verdict (tables_of log) c) book out
            (rw (← kinds_are day.head log c e good) long),
      )
      (outcome_map ended_by (settle_same _ _ (day_same day.head log c e good small) day.head.date book out g))

  -- what would be found, where n ladders were counted to have an offence
  module _ (room n : ℕ) (counted : n ≡ found_in (kinds_for day.head) (day_places day.head log c)
      day.head.contracts) where
    n_is : n ≡ found_count (cell_verdict (tables_of log) c)
    n_is = counted ∙ count_same day.head log c e good small

    pub found_short : room < 8 * n
        → Err FindingsShort ≡ day_found (counts_fault day (tables_of log) c room) (tables_of log) c
    unfolding day_found short_fault
    found_short h =
        refuse FindingsShort _
        (pick_yes _ _ _ _ (lt-ltb room (8 * found_count (cell_verdict (tables_of log) c)) (omega (arith, n_is))) refl
        ∙ room_decides room)

    pub found_done : 8 * n ≤ room → Ok n ≡ day_found (counts_fault day (tables_of log) c room) (tables_of log) c
    unfolding day_found short_fault
    found_done h =
        answer_done _ _ _
        (sym (room_decides room)
        ∙ sym (pick_no _ _ _ _ (le-ltb room (8 * found_count (cell_verdict (tables_of log) c)) (omega (arith, n_is)))
        refl))
        (ap Ok n_is)

-- ---- what is asked before ending: by the number of its refusal
pub found_is : (fault : ℕ) (t : Tables) (c : List ℕ) → day_found fault t c
    ≡ answered fault (Ok (found_count (cell_verdict t c))) refused
unfolding day_found
found_is fault t c = refl

pub ruleset asking = (chosen, found_is)
