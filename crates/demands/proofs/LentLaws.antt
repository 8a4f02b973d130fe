-- What the lent counts hold after any list of steps. Assumes nothing.
use mathlib.Core.Path.{◌≡◌, refl, sym, ap, ◌∙◌}
use mathlib.Core.Bool.{Bool, true, false}
use mathlib.Core.List.{List, [], ◌∷◌}
use Prim.Native.Nat.{ℕ, ◌+◌, ◌-◌, ◌≤◌}
use native.Mathlib.Omega.{arith}
use borrow.Author.Tests.{eqb-true}
use lib.Dec.{eqb}
use lib.ListN.{length, drop}
use lib.Seq.{drop-drop}
use Rattle.wire.specs.Choice.{pick}
use Rattle.rules.proofs.KindLaws.{kinds_most}
use Rattle.daylog.specs.declared.record.Record.{Record}
use Rattle.daylog.specs.Header.{header_of}
use Rattle.daylog.specs.Records.{record_of}
use Rattle.places.specs.Places.{cells}
use Rattle.counts.specs.Cells.{raised}
use Rattle.counts.specs.Weigh.{plan_in}
use Rattle.desk.specs.Take.{take_fault}
use Rattle.desk.specs.Open.{kinds_for, open_fault, handed_fault, zeroed}
use Rattle.desk.proofs.HandedLaws.{room_there}
use Rattle.demands.specs.Calls.{Step, Desk, Given, Gives, fresh_gives, open_gives, take_gives, end_gives}
use Rattle.demands.specs.Calls.{abandon_gives, ask_gives, lend_gives, Ran, none, next, left}
use Rattle.demands.specs.Paper.{Course, idle, during, Paper, take_number, open_ruled, take_ruled, rule}
use Rattle.demands.specs.Lent.{latest, last_opened, most_cells, CountsHold}
use Rattle.demands.specs.Demand2.{CellsCounted}
use Rattle.demands.proofs.DayLaws.{Agrees, zeroed_length, zeroed_past, raised_room, raised_rest, take_is}
use Rattle.demands.proofs.CallLaws.{paper, Stands, rest, busy, begins, no_record_fault, step}

-- ---- what one step writes
-- as many counts as before, and the same past the cells
record Past (old c : List ℕ) : Type 0 where
  long : length c ≡ length old
  past : drop most_cells c ≡ drop most_cells old

-- lists that are the same past a place are so past a later one
later : (m n : ℕ) (a b : List ℕ) → m ≤ n → drop m a ≡ drop m b → drop n a ≡ drop n b
later m n a b h e =
    let q : m + (n - m) ≡ n = omega arith in
    ap (λ (k : ℕ). drop k a) (sym q) ∙ sym (drop-drop (n - m) m a) ∙ ap (drop (n - m)) e ∙ drop-drop (n - m) m b
    ∙ ap (λ (k : ℕ). drop k b) q

-- past the cells of a day's rulebook is past those of the most kinds
past_most : (log old c : List ℕ) → length c ≡ length old
    → drop (cells (kinds_for (header_of log))) c ≡ drop (cells (kinds_for (header_of log))) old → Past old c
past_most log old c n e = record {
  long = n;
  past = later (cells (kinds_for (header_of log))) most_cells c old (omega (arith, kinds_most (header_of log).rulebook))
      e;
}

-- nothing; or, where it leaves a day open, nothing past the cells
data Writes : Course → (old c : List ℕ) → Type 0 where
  nothing : {course : Course} {c : List ℕ} → Writes course c c
  within : {log : List ℕ} {rs : List Record} {old c : List ℕ} → Past old c → Writes (during log rs) old c

module _ (log c book out : List ℕ) where
  -- the counts of a day that is opened
  abbrev zeros : List ℕ
  zeros = zeroed (kinds_for (header_of log)) c

  -- the number of the opening's refusal
  abbrev fault : ℕ
  fault = handed_fault log book (length c)

  open_writes : Writes (open_ruled (paper idle book out (length c)) log fault).after.course c
      (pick (eqb fault 0) zeros c)
  unfolding open_ruled pick
  open_writes = go (eqb fault 0) refl
    where
      go : (t : Bool) → eqb fault 0 ≡ t
          → Writes (pick t (paper (during log []) book out (length c)) (paper idle book out (length c))).course c
          (pick t zeros c)
      go true e =
          let h = room_there log book (length c) (eqb-true _ 0 e) in
          within (past_most log c zeros (zeroed_length _ c h) (zeroed_past _ c))
      go false e = nothing

  module _ (rs : List Record) (row : List ℕ) (len : ℕ) (a : Agrees log rs c) where
    -- the counts after the record
    abbrev more : List ℕ
    more = raised (kinds_for (header_of log)) (plan_in log row) c

    -- the paper before it, and after
    abbrev before : Paper
    before = paper (during log rs) book out len

    abbrev after : Paper
    after = paper (during log (record_of row ∷ rs)) book out len

    take_writes : Writes (take_ruled before log rs row (take_number log rs row)).after.course c
        (pick (eqb (take_number log rs row) 0) more c)
    unfolding take_ruled pick
    take_writes = go (eqb (take_number log rs row) 0) refl
      where
        go : (t : Bool) → eqb (take_number log rs row) 0 ≡ t → Writes (pick t after before).course c (pick t more c)
        go true e =
            let r = record_of row in
            let f = no_record_fault log rs row (eqb-true _ 0 e) in
            within (past_most log c more (raised_room log rs c r a f) (raised_rest log rs c r a f))
        go false e = nothing

writes : {w : Desk} {p : Paper} {c : Step} {g : Given} → Stands w p → Gives w c g
    → Writes (rule p p.course c).after.course w.counts g.after.counts
unfolding rule open_fault take_fault pick
writes s (fresh_gives m) = nothing
writes s (end_gives m) = nothing
writes s (abandon_gives e) = nothing
writes s (ask_gives e) = nothing
writes s lend_gives = nothing
writes (rest {c = c} {book} {out} n) (open_gives {log} m) = rw (m.after, ← n) (open_writes log c book out)
writes (busy n a) (open_gives m) = rw m.after nothing
writes (rest n) (take_gives m) = rw m.after nothing
writes (busy {log} {c} {book} {out} {rs} {room} n a) (take_gives {row} m) =
    rw (m.after, take_is log rs c a row) (take_writes log c book out rs row room a)

-- ---- what the counts hold that were lent, from step to step
written_past : {course : Course} {old c : List ℕ} → Writes course old c → Past old c
written_past nothing = record { long = refl; past = refl }
written_past (within q) = q

held_past : (last : Course) (lent c : List ℕ) → CountsHold last lent c → Past lent c
held_past idle lent c e = rw e (record { long = refl; past = refl })
held_past (during log rs) lent c h = record { long = h.long; past = h.past }

held : {w : Desk} {p : Paper} {c : List ℕ} (last : Course) (lent : List ℕ) → Stands w p
    → Writes p.course c w.counts → CountsHold last lent c
    → CountsHold (latest p.course last) lent w.counts
held last lent (rest n) nothing h = h
held {c = c} last lent (busy n a) x h =
    let q = written_past x in
    let o = held_past last lent c h in record {
      long = q.long ∙ o.long;
      times = a.cells;
      spare = λ g k place i l. a.cells g k place i ∙ a.spare g k place l;
      past = q.past ∙ o.past;
    }

runs : {w : Desk} {p : Paper} {cs : List Step} {gs : List Given} (last : Course) (lent : List ℕ) → Stands w p
    → CountsHold last lent w.counts → Ran w cs gs → CountsHold (last_opened p last cs) lent (left w gs).counts
unfolding last_opened left
runs last lent s h none = h
runs last lent s h (next g r) = let t = step s g in runs _ lent t.after (held last lent t.after (writes s g) h) r

pub cells_counted : CellsCounted
cells_counted w cs gs e r = runs idle w.counts (begins w e) refl r
