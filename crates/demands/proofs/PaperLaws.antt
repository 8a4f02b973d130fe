-- What a step leaves on the paper: a refused one everything, an accepted one what the rules say, and each the
-- buffers' room. Assumes nothing.
use mathlib.Core.Path.{◌≡◌, refl, sym}
use mathlib.Core.Bool.{Bool, true, false}
use mathlib.Core.List.{List, [], ◌∷◌}
use Prim.Native.Nat.{ℕ, ◌≤◌}
use native.Mathlib.Omega.{arith}
use borrow.Author.Tests.{leb-true, eq-eqb, ne_eqb}
use lib.Dec.{eqb}
use lib.ListN.{length}
use Rattle.wire.specs.Choice.{pick}
use Rattle.wire.specs.Buffers.{put}
use Rattle.wire.proofs.ChoiceLaws.{pick_yes, pick_no}
use Rattle.wire.proofs.BufferLaws.{length_put}
use Rattle.daylog.specs.declared.record.Record.{Record}
use Rattle.daylog.specs.Header.{header_of, tables_of}
use Rattle.daylog.specs.Records.{record_of}
use Rattle.tables.specs.Tables.{Tables}
use Rattle.verdict.specs.Verdict.{findings, book_after}
use Rattle.desk.specs.Books.{fresh_fault}
use Rattle.desk.specs.Open.{handed_fault}
use Rattle.demands.specs.Counts.{times_on, day_verdict}
use Rattle.demands.specs.Days.{ended_day}
use Rattle.demands.specs.Calls.{Step, make_book, open_day, take_record, end_day, abandon_day, ask_book, lend_findings}
use Rattle.demands.specs.Calls.{full_room}
use Rattle.demands.specs.Paper.{Course, idle, during, Paper, take_number, end_refusal, fresh_book, at, resting}
use Rattle.demands.specs.Paper.{open_ruled, take_ruled, end_ruled, rule}
use Rattle.demands.specs.Demand2.{History, recorded}
use Rattle.demands.specs.Demand3.{roomy}
use Rattle.demands.proofs.NumberLaws.{refusal}
use Rattle.demands.proofs.ListedLaws.{findings_list, found_fits}

-- what holds of two papers holds of either
pub either : (P : Paper → Type 0) (t : Bool) (q p : Paper) → P q → P p → P (pick t q p)
unfolding pick
either P true q p y n = y
either P false q p y n = n

-- ---- a refused step
pub kept_fresh : (book : List ℕ) (rulebook : ℕ) → eqb (fresh_fault (length book) rulebook) 0 ≡ false
    → fresh_book book rulebook ≡ book
unfolding fresh_book
kept_fresh book rulebook e = sym (pick_no _ _ _ _ e refl)

module _ (p : Paper) (h : History) where
  pub record Left (course : Course) (c : Step) : Type 0 where
    pub paper : (rule p course c).after ≡ p
    pub days : recorded p course c h ≡ h

  pub refused_leaves : (course : Course) (c : Step) → (refusal p course c ≡ 0 → ⊥) → Left course c
  unfolding refusal rule recorded open_ruled take_ruled end_ruled
  refused_leaves course (make_book rulebook) f =
      let e = ne_eqb (fresh_fault (length p.book) rulebook) 0 f in
      record { paper = rw (kept_fresh p.book rulebook e); days = sym (pick_no _ _ _ _ e refl) }
  refused_leaves course (ask_book group kind family) f = record { paper = refl; days = refl }
  refused_leaves course (lend_findings out) f = absurd (f refl)
  refused_leaves idle (open_day log) f = record { paper = sym (pick_no _ _ _ _ (ne_eqb _ 0 f) refl); days = refl }
  refused_leaves idle (take_record row) f = record { paper = refl; days = refl }
  refused_leaves idle (end_day row) f = record { paper = refl; days = refl }
  refused_leaves idle abandon_day f = record { paper = refl; days = refl }
  refused_leaves (during log rs) (open_day other) f = record { paper = refl; days = refl }
  refused_leaves (during log rs) (take_record row) f =
      record { paper = sym (pick_no _ _ _ _ (ne_eqb _ 0 f) refl); days = refl }
  refused_leaves (during log rs) (end_day row) f =
      record { paper = sym (pick_no _ _ _ _ (ne_eqb _ 0 f) refl); days = sym (pick_no _ _ _ _ (ne_eqb _ 0 f) refl) }
  refused_leaves (during log rs) abandon_day f = absurd (f refl)

-- ---- an accepted one
pub after_open : (p : Paper) (log : List ℕ) → handed_fault log p.book p.len ≡ 0
    → at p (during log []) ≡ (rule p idle (open_day log)).after
unfolding rule open_ruled
after_open p log e = pick_yes _ _ _ _ (eq-eqb _ 0 e) refl

pub after_take : (p : Paper) (log : List ℕ) (rs : List Record) (row : List ℕ) → take_number log rs row ≡ 0
    → at p (during log (record_of row ∷ rs)) ≡ (rule p (during log rs) (take_record row)).after
unfolding rule take_ruled
after_take p log rs row e = pick_yes _ _ _ _ (eq-eqb _ 0 e) refl

pub after_end : (p : Paper) (log : List ℕ) (rs : List Record) (row : List ℕ) → end_refusal log rs row p.book
    (length p.out) ≡ 0
    → resting p (book_after (day_verdict (tables_of log) rs) (header_of log).date p.book)
    (put p.out 0 (findings (day_verdict (tables_of log) rs) (header_of log).date p.book))
    ≡ (rule p (during log rs) (end_day row)).after
unfolding rule end_ruled
after_end p log rs row e = pick_yes _ _ _ _ (eq-eqb _ 0 e) refl

pub recorded_end : (p : Paper) (log : List ℕ) (rs : List Record) (row : List ℕ) (h : History)
    → end_refusal log rs row p.book (length p.out) ≡ 0
    → recorded p (during log rs) (end_day row) h ≡ record { from = h.from; days = ended_day log rs ∷ h.days }
unfolding recorded
recorded_end p log rs row h e = sym (pick_yes _ _ _ _ (eq-eqb _ 0 e) refl)

-- ---- the book: only a fresh one and a day's end write it
pub open_book : (p : Paper) (course : Course) (log : List ℕ) → (rule p course (open_day log)).after.book ≡ p.book
unfolding rule open_ruled
open_book p idle log = either (λ (x : Paper). x.book ≡ p.book) _ _ p refl refl
open_book p (during other rs) log = refl

pub take_book : (p : Paper) (course : Course) (row : List ℕ) → (rule p course (take_record row)).after.book ≡ p.book
unfolding rule take_ruled
take_book p idle row = refl
take_book p (during log rs) row = either (λ (x : Paper). x.book ≡ p.book) _ _ p refl refl

pub abandon_book : (p : Paper) (course : Course) → (rule p course abandon_day).after.book ≡ p.book
unfolding rule
abandon_book p idle = refl
abandon_book p (during log rs) = refl

-- ---- room: a step leaves the counts' length, and full room for findings where what it lends has it
pub same_room : (p : Paper) (course : Course) (c : Step) → (rule p course c).after.len ≡ p.len
unfolding rule open_ruled take_ruled end_ruled
same_room p course (make_book rulebook) = refl
same_room p course (ask_book group kind family) = refl
same_room p course (lend_findings out) = refl
same_room p idle (open_day log) = either (λ (x : Paper). x.len ≡ p.len) _ _ p refl refl
same_room p idle (take_record row) = refl
same_room p idle (end_day row) = refl
same_room p idle abandon_day = refl
same_room p (during log rs) (open_day other) = refl
same_room p (during log rs) (take_record row) = either (λ (x : Paper). x.len ≡ p.len) _ _ p refl refl
same_room p (during log rs) (end_day row) = either (λ (x : Paper). x.len ≡ p.len) _ _ p refl refl
same_room p (during log rs) abandon_day = refl

pub written_room : (t : Tables) (rs : List Record) (date : ℕ) (book out : List ℕ) → full_room ≤ length out
    → full_room ≤ length (put out 0 (findings (day_verdict t rs) date book))
written_room t rs date book out h =
    let long = (findings_list t rs date book).lists.long in
    let fits = found_fits t (times_on t rs) (length out) h in
    omega (arith, length_put out 0 (findings (day_verdict t rs) date book) (omega (arith, fits)))

pub full_out : (p : Paper) (course : Course) (c : Step) → full_room ≤ length p.out → roomy c ≡ true
    → full_room ≤ length (rule p course c).after.out
unfolding rule open_ruled take_ruled end_ruled roomy
full_out p course (make_book rulebook) h l = h
full_out p course (ask_book group kind family) h l = h
full_out p course (lend_findings out) h l = leb-true full_room (length out) l
full_out p idle (open_day log) h l = either (λ (x : Paper). full_room ≤ length x.out) _ _ p h h
full_out p idle (take_record row) h l = h
full_out p idle (end_day row) h l = h
full_out p idle abandon_day h l = h
full_out p (during log rs) (open_day other) h l = h
full_out p (during log rs) (take_record row) h l = either (λ (x : Paper). full_room ≤ length x.out) _ _ p h h
full_out p (during log rs) (end_day row) h l =
    either (λ (x : Paper). full_room ≤ length x.out) _ _ p
    (written_room (tables_of log) rs (header_of log).date p.book p.out h) h
full_out p (during log rs) abandon_day h l = h
