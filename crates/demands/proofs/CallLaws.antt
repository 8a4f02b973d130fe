-- Each call on its own: where the desk stands as the paper does, it gives what the paper says and stands so again.
-- Assumes nothing.
use mathlib.Core.Path.{◌≡◌, refl, sym, ap, ap₂, subst}
use mathlib.Core.Bool.{Bool, true, false}
use mathlib.Core.List.{List, [], ◌∷◌, map}
use Prim.Native.Nat.{ℕ, ◌+◌}
use native.Mathlib.Numerals.{add-one}
use borrow.Author.Tests.{eqb-true}
use lib.Dec.{eqb, lit<}
use lib.ListN.{length}
use Rattle.std.specs.Prelude.{Ok}
use Rattle.wire.specs.Choice.{pick}
use Rattle.wire.specs.Outcomes.{answered, refused}
use Rattle.wire.proofs.ChoiceLaws.{pick_zero, or_none}
use Rattle.daylog.specs.declared.record.Record.{Record}
use Rattle.daylog.specs.Header.{header_of, log_fault, tables_of}
use Rattle.daylog.specs.Records.{record_of}
use Rattle.book.specs.Fits.{book_fault}
use Rattle.verdict.specs.Verdict.{Verdict, found_count}
use Rattle.verdict.specs.Settle.{written}
use Rattle.years.specs.Days.{blank_as}
use Rattle.desk.specs.declared.state.State.{State}
use Rattle.desk.specs.declared.state.State.TheVariants.{Closed, Open}
use Rattle.counts.specs.Cells.{raised}
use Rattle.counts.specs.Counting.{fields_fault}
use Rattle.counts.specs.Weigh.{plan_in, reasons_in, record_fault}
use Rattle.desk.specs.Take.{take_fault, one_more}
use Rattle.desk.specs.Open.{kinds_for, open_fault, handed_fault, day_of, zeroed}
use Rattle.desk.specs.Abandon.{abandon_answer}
use Rattle.desk.specs.End.{end_fault}
use Rattle.desk.proofs.HandedLaws.{room_there}
use Rattle.demands.specs.Counts.{day_verdict}
use Rattle.demands.specs.Calls.{Step, Reply, moved, took, ended, Desk, desk_of, Given, state_after, log_after}
use Rattle.demands.specs.Calls.{take_state, end_state}
use Rattle.demands.specs.Calls.{Gives, fresh_gives, open_gives, take_gives, end_gives, abandon_gives, ask_gives}
use Rattle.demands.specs.Calls.{lend_gives, Ran, none, next, left}
use Rattle.demands.specs.Paper.{Course, idle, during, Paper, Ruled, day_in, take_number, end_refusal, fresh_book}
use Rattle.demands.specs.Paper.{open_ruled, take_ruled, end_ruled, rule, rules, paper_after}
use Rattle.demands.specs.Demand2.{Seen, seen, ruled, begun}
use Rattle.demands.proofs.TableLaws.{fields_fine}
use Rattle.demands.proofs.DayLaws.{Agrees, agrees_open, agrees_take, raised_room, zeroed_length, take_is}
use Rattle.demands.proofs.DayLaws.{end_is, count_is, book_is, findings_are}

abbrev pub paper : Course → (book out : List ℕ) → (len : ℕ) → Paper
paper course book out len = record { course = course; book = book; out = out; len = len }

-- no day is open; or one is, and its cells are the times of its records
pub data Stands : Desk → Paper → Type 0 where
  rest : {held c book out : List ℕ} {room : ℕ} → length c ≡ room → Stands (desk_of Closed held c book out)
      (paper idle book out room)
  busy : {log c book out : List ℕ} {rs : List Record} {room : ℕ} → length c ≡ room → Agrees log rs c
      → Stands (desk_of (Open (day_in log rs)) log c book out) (paper (during log rs) book out room)

pub stands_book : {w : Desk} {p : Paper} → Stands w p → w.book ≡ p.book
stands_book (rest n) = refl
stands_book (busy n a) = refl

pub stands_out : {w : Desk} {p : Paper} → Stands w p → w.out ≡ p.out
stands_out (rest n) = refl
stands_out (busy n a) = refl

-- a desk on which no day is open stands so
pub begins : (w : Desk) → w.state ≡ Closed → Stands w (begun w)
begins w e = subst (λ (s : State). Stands (desk_of s w.log w.counts w.book w.out) (begun w)) (sym e)
    (rest refl)

pub record Same (g : Given) (r : Ruled) : Type 0 where
  pub reply : g.reply ≡ r.reply
  pub after : Stands g.after r.after

-- ---- a day opened
pub handed_parts : (log book : List ℕ) (len : ℕ) → handed_fault log book len ≡ 0
    → (log_fault log ≡ 0) × (book_fault (header_of log).rulebook (header_of log).date book ≡ 0)
unfolding handed_fault
handed_parts log book len e =
    let q = or_none (log_fault log) _ e in
    (q.0, (or_none (book_fault (header_of log).rulebook (header_of log).date book) _ q.1).0)

module _ (held log c book out : List ℕ) where
  abbrev handed_is : ℕ
  handed_is = handed_fault log book (length c)

  -- what opening gives, by whether the fault is 0
  abbrev opening : Bool → Given
  opening t =
      let counts = zeroed (kinds_for (header_of log)) c in
      let a = pick t (Ok (Open (day_of log))) (refused handed_is) in
      record {
        reply = moved a;
        after = desk_of (state_after Closed a) (log_after held log a) (pick t counts c) book
            out;
      }

  open_step : Same (opening (eqb handed_is 0)) (open_ruled (paper idle book out (length c)) log handed_is)
  unfolding open_ruled answered pick
  open_step = go (eqb handed_is 0) refl
    where
      go : (t : Bool) → eqb handed_is 0 ≡ t → Same (opening t)
          (record {
            reply = moved (pick t (Ok (Open (day_in log []))) (refused handed_is));
            after = pick t (paper (during log []) book out (length c)) (paper idle book out (length c));
          })
      go true e =
          let z : handed_is ≡ 0 = eqb-true handed_is 0 e in
          let h = room_there log book (length c) z in
          let good = (handed_parts log book (length c) z).0 in
          record { reply = refl; after = busy (zeroed_length _ c h) (agrees_open log c good h) }
      go false e = record { reply = refl; after = rest refl }

-- ---- a record taken
pub no_record_fault : (log : List ℕ) (rs : List Record) (row : List ℕ) → take_number log rs row ≡ 0
    → fields_fault (tables_of log) (record_of row) ≡ 0
unfolding take_number
no_record_fault log rs row e =
    fields_fine _ (tables_of log) row (or_none (record_fault (header_of log).version (tables_of log) row) _
    (pick_zero _ 1 _ (lit< tt) e).1).0

module _ (log c book out : List ℕ) (rs : List Record) (row : List ℕ) (a : Agrees log rs c) where
  abbrev taking_number : ℕ
  taking_number = take_number log rs row

  -- what taking gives, by whether the fault is 0
  abbrev taking : Bool → Given
  taking t =
      let counts = raised (kinds_for (header_of log)) (plan_in log row) c in
      let a = pick t (Ok (Open (one_more (day_in log rs)), reasons_in log row)) (refused taking_number) in
      record { reply = took a; after = desk_of (take_state (Open (day_in log rs)) a) log (pick t counts c) book out }

  -- and what the paper says
  abbrev taken : Bool → Ruled
  taken t =
      let after = Open (record { head = header_of log; taken = length rs + 1 }) in
      let old = paper (during log rs) book out (length c) in
      let new = paper (during log (record_of row ∷ rs)) book out (length c) in
      record {
        reply = took (pick t (Ok (after, reasons_in log row)) (refused taking_number));
        after = pick
            t new old;
      }

  take_step : Same (taking (eqb taking_number 0))
      (take_ruled (paper (during log rs) book out (length c)) log rs row taking_number)
  unfolding take_ruled answered pick
  take_step = go (eqb taking_number 0) refl
    where
      go : (t : Bool) → eqb taking_number 0 ≡ t → Same (taking t) (taken t)
      go true e =
          let r = record_of row in
          let f = no_record_fault log rs row (eqb-true taking_number 0 e) in
          record { reply = refl; after = rw add-one (busy (raised_room log rs c r a f) (agrees_take log rs c r a f)) }
      go false e = record { reply = refl; after = busy refl a }

-- ---- a day ended
module _ (log c book out : List ℕ) (rs : List Record) (row : List ℕ) (a : Agrees log rs c) where
  abbrev ending_number : ℕ
  ending_number = end_refusal log rs row book (length out)

  -- what ending gives by a verdict, by whether the fault is 0
  abbrev ending : Verdict → Bool → Given
  ending v t =
      let e = pick t (Ok (Closed, found_count v)) (refused ending_number) in
      let buffers = pick t (written v (header_of log).date book out) (book, out) in
      record { reply = ended e; after = desk_of (end_state (Open (day_in log rs)) e) log c buffers.0 buffers.1 }

  end_step : Same (ending (day_verdict (tables_of log) rs) (eqb ending_number 0))
      (end_ruled (paper (during log rs) book out (length c)) log rs ending_number)
  unfolding end_ruled answered pick
  end_step = go (eqb ending_number 0)
    where
      go : (t : Bool) → Same (ending (day_verdict (tables_of log) rs) t)
          (record {
            reply = ended (pick t (Ok (Closed, found_count (day_verdict (tables_of log) rs)))
                (refused ending_number));
            after =
                let buffers = written (day_verdict (tables_of log) rs) (header_of log).date book out in
                pick t (paper idle buffers.0 buffers.1 (length c)) (paper (during log rs) book out (length c));
          })
      go true = record { reply = refl; after = rest refl }
      go false = record { reply = refl; after = busy refl a }

-- ---- any step
pub step : {w : Desk} {p : Paper} {c : Step} {g : Given} → Stands w p → Gives w c g → Same g (rule p p.course c)
unfolding rule open_fault take_fault end_fault abandon_answer fresh_book blank_as answered pick
step (rest n) (fresh_gives m) = rw (m.answer, m.after) (record { reply = refl; after = rest n })
step (busy n a) (fresh_gives m) = rw (m.answer, m.after) (record { reply = refl; after = busy n a })
step (rest n) (ask_gives e) = rw e (record { reply = refl; after = rest n })
step (busy n a) (ask_gives e) = rw e (record { reply = refl; after = busy n a })
step (rest n) lend_gives = record { reply = refl; after = rest n }
step (busy n a) lend_gives = record { reply = refl; after = busy n a }
step (rest {held} {c} {book} {out} n) (open_gives {log} m) =
    rw (m.answer, m.after, ← n) (open_step held log c book out)
step (busy n a) (open_gives m) = rw (m.answer, m.after) (record { reply = refl; after = busy n a })
step (rest n) (take_gives m) = rw (m.answer, m.after) (record { reply = refl; after = rest n })
step (busy {log} {c} {book} {out} {rs} n a) (take_gives {row} m) =
    rw (m.answer, m.after, take_is log rs c a row, ← n) (take_step log c book out rs row a)
step (rest n) (end_gives m) =
    rw (m.answer, ap (λ x. x.0) m.after, ap (λ x. x.1) m.after) (record { reply = refl; after = rest n })
step (busy {log} {c} {book} {out} {rs} n a) (end_gives {row} m) =
    let date = (header_of log).date in
    let fault = end_is log rs c a row book (length out) in
    let kept = book_is log rs c a date book in
    let found = findings_are log rs c a date book in
    rw (m.answer, ap (λ x. x.0) m.after, ap (λ x. x.1) m.after, fault, count_is log rs c a, kept, found, ← n)
    (end_step log c book out rs row a)
step (rest n) (abandon_gives e) = rw e (record { reply = refl; after = rest n })
step (busy n a) (abandon_gives e) = rw e (record { reply = refl; after = rest n })

-- ---- any list of steps: what is seen of each, and how the desk then stands
same_seen : {reply reply' : Reply} {book book' out out' : List ℕ} → reply ≡ reply' → book ≡ book' → out ≡ out'
    → ◌≡◌ {A = Seen} (record { reply = reply; book = book; out = out })
    (record { reply = reply'; book = book'; out = out' })
same_seen p q r = rw (p, q, r)

pub runs_read : {A : Type 0} (read : Seen → A) {w : Desk} {p : Paper} {cs : List Step} {gs : List Given} → Stands w p
    → Ran w cs gs
    → map (λ g. read (seen g)) gs ≡ map (λ r. read (ruled r)) (rules p cs)
unfolding rules
runs_read read s none = refl
runs_read {A} read s (next g r) =
    let t = step s g in
    ap₂ {C = List A} (λ x xs. x ∷ xs)
    (ap read (same_seen t.reply (stands_book t.after) (stands_out t.after)))
    (runs_read read t.after r)

pub runs_stand : {w : Desk} {p : Paper} {cs : List Step} {gs : List Given} → Stands w p → Ran w cs gs
    → Stands (left w gs) (paper_after p cs)
unfolding left paper_after
runs_stand s none = s
runs_stand s (next g r) = runs_stand (step s g).after r
