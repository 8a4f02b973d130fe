-- Day logs as bytes: what the clerk makes of them by the calls is what the rules alone say. Assumes nothing.
use mathlib.Core.Path.{◌≡◌, refl, sym, ap, ap₂, ◌∙◌, subst}
use mathlib.Core.Bool.{Bool, true, false}
use mathlib.Core.List.{List, [], ◌∷◌}
use Prim.Native.Nat.{ℕ, ◌≤◌}
use native.Mathlib.Omega.{arith}
use borrow.Author.Tests.{eqb-true, eqb-false, le-ltb}
use lib.Dec.{eqb}
use lib.ListN.{length, replicate, length-replicate}
use Rattle.wire.specs.Choice.{pick, or_else}
use Rattle.wire.specs.Buffers.{put}
use Rattle.wire.proofs.ChoiceLaws.{pick_yes, pick_no, or_else_lem, or_first, flip_yes, flip_no}
use Rattle.daylog.specs.declared.record.Record.{Record}
use Rattle.daylog.specs.Header.{header_of, tables_of}
use Rattle.daylog.specs.Records.{record_of}
use Rattle.daylog.specs.Rows.{front, row_size, rows_of, is_end}
use Rattle.book.specs.Fits.{book_fault}
use Rattle.verdict.specs.Verdict.{findings, book_after}
use Rattle.verdict.specs.Settle.{short_fault}
use Rattle.desk.specs.Open.{handed_fault}
use Rattle.desk.specs.End.{row_fault}
use Rattle.demands.specs.Counts.{times_on, day_verdict}
use Rattle.demands.specs.Calls.{Step, open_day, take_record, end_day, number_in, Desk, Given, Gives, full_room}
use Rattle.demands.specs.Paper.{idle, during, Paper, day_in, take_number, end_refusal}
use Rattle.demands.specs.Logs.{Reads, stops, cut, takes, take_refused, end_refused, ends, follows}
use Rattle.demands.specs.Logs.{clerk_counts, clerk_desk, Judges, open_refused, opened, file_after, records_in}
use Rattle.demands.specs.Logs.{follow_fault, rows_number, log_number, day_findings, ruled_file}
use Rattle.demands.specs.Logs.{Judged, printed_of, JudgesAll, none as no_log, next as one_log, ruled_logs}
use Rattle.demands.specs.Demand2.{LogsRuled}
use Rattle.demands.proofs.CallLaws.{Stands, rest, busy, step, paper, stands_book, stands_out, handed_parts}
use Rattle.demands.proofs.NumberLaws.{refusal, number_is}
use Rattle.demands.proofs.ListedLaws.{found_fits}
use Rattle.demands.proofs.PaperLaws.{after_open, after_take, after_end}

-- ---- the end's refusal
or_zero : (a : ℕ) → or_else a 0 ≡ a
or_zero a = go (eqb a 0) refl
  where
    go : (t : Bool) → eqb a 0 ≡ t → or_else a 0 ≡ a
    go true e = or_else_lem a 0 (eqb-true a 0 e) ∙ sym (eqb-true a 0 e)
    go false e = or_first a 0 (eqb-false a 0 e)

-- on a book that the opening accepted, and with full room for findings, only the record itself can be refused
pub end_plain : (log : List ℕ) (rs : List Record) (row book : List ℕ) (room : ℕ) → eqb (length row) (row_size log)
    ≡ true
    → book_fault (header_of log).rulebook (header_of log).date book ≡ 0 → full_room ≤ room
    → end_refusal log rs row book room ≡ row_fault (day_in log rs) row
unfolding end_refusal short_fault
end_plain log rs row book room e b h =
    let long = le-ltb room _ (found_fits (tables_of log) (times_on (tables_of log) rs) room h) in
    sym (pick_no _ _ _ _ (flip_no _ e) refl)
    ∙ ap (or_else (row_fault (day_in log rs) row))
    (or_else_lem (book_fault (header_of log).rulebook (header_of log).date book) _ b ∙ sym (pick_no _ _ _ _ long refl))
    ∙ or_zero (row_fault (day_in log rs) row)

-- ---- the rules' number and records, row by row
module _ (log : List ℕ) (rs : List Record) where
  rows_stop : 1 ≡ rows_number log rs []
  unfolding rows_number
  rows_stop = refl

  module _ (row : List ℕ) (more : List (List ℕ)) where
    rows_cut : eqb (length row) (row_size log) ≡ false → 1 ≡ rows_number log rs (row ∷ more)
    unfolding rows_number
    rows_cut e = pick_yes _ _ _ _ (flip_yes _ e) refl

    rows_end : eqb (length row) (row_size log) ≡ true → is_end row ≡ true
        → or_else (row_fault (day_in log rs) row) (follow_fault more) ≡ rows_number log rs (row ∷ more)
    unfolding rows_number
    rows_end e t = pick_no _ _ _ _ (flip_no _ e) (pick_yes _ _ _ _ t refl)

    rows_take : eqb (length row) (row_size log) ≡ true → is_end row ≡ false
        → or_else (take_number log rs row) (rows_number log (record_of row ∷ rs) more) ≡ rows_number log rs (row ∷ more)
    unfolding rows_number
    rows_take e t = pick_no _ _ _ _ (flip_no _ e) (pick_no _ _ _ _ t refl)

    records_end : is_end row ≡ true → rs ≡ records_in rs (row ∷ more)
    unfolding records_in
    records_end t = pick_yes _ _ _ _ t refl

    records_take : is_end row ≡ false → records_in (record_of row ∷ rs) more ≡ records_in rs (row ∷ more)
    unfolding records_in
    records_take t = pick_no _ _ _ _ t refl

-- ---- the steps: their number, and how the desk stands where it is 0
pub call_number : {w : Desk} {p : Paper} {c : Step} {g : Given} → Stands w p → Gives w c g → number_in g.reply
    ≡ refusal p p.course c
call_number {p = p} {c = c} s g = ap number_in (step s g).reply ∙ number_is p p.course c

-- what is in the book and in the findings buffer of a desk
pub record Holds (book out : List ℕ) (w : Desk) : Type 0 where
  pub in_book : w.book ≡ book
  pub in_out : w.out ≡ out

-- they are what ending the day of a log writes
abbrev pub Wrote : (log book out : List ℕ) → List Record → Desk → Type 0
Wrote log book out rs w =
    let v = day_verdict (tables_of log) rs in
    let date = (header_of log).date in
    Holds (book_after v date book) (put out 0 (findings v date book)) w

stands_holds : {w : Desk} {p : Paper} → Stands w p → Holds p.book p.out w
stands_holds s = record { in_book = stands_book s; in_out = stands_out s }

module _ {w : Desk} {log : List ℕ} {book out : List ℕ} {room : ℕ} {g : Given}
    (s : Stands w (paper idle book out room)) (m : Gives w (open_day log) g) where
  open_number : number_in g.reply ≡ handed_fault log book room
  unfolding refusal
  open_number = call_number s m

  open_stands : handed_fault log book room ≡ 0 → Stands g.after (paper (during log []) book out room)
  open_stands z = subst (Stands g.after) (sym (after_open (paper idle book out room) log z)) (step s m).after

module _ {w : Desk} {log : List ℕ} {rs : List Record} {book out : List ℕ} {room : ℕ} (row : List ℕ) {g : Given}
    (s : Stands w (paper (during log rs) book out room)) where
  take_number_is : Gives w (take_record row) g → number_in g.reply ≡ take_number log rs row
  unfolding refusal
  take_number_is m = call_number s m

  take_stands : Gives w (take_record row) g → take_number log rs row ≡ 0
      → Stands g.after (paper (during log (record_of row ∷ rs)) book out room)
  take_stands m z = subst (Stands g.after) (sym (after_take (paper (during log rs) book out room) log rs row z))
      (step s m).after

  pub end_number_lem : Gives w (end_day row) g → number_in g.reply ≡ end_refusal log rs row book (length out)
  unfolding refusal
  end_number_lem m = call_number s m

  pub end_holds : Gives w (end_day row) g → end_refusal log rs row book (length out) ≡ 0
      → Wrote log book out rs g.after
  end_holds m z =
      stands_holds (subst (Stands g.after) (sym (after_end (paper (during log rs) book out room) log rs row z))
      (step s m).after)

-- ---- a log
-- the number is the rules', and where it is 0 the book and the findings are those of the day with these records
pub record Read (log book out : List ℕ) (n number : ℕ) (rs : List Record) (w : Desk) : Type 0 where
  pub same : n ≡ number
  pub written : n ≡ 0
      → Wrote log book out rs w

read_of : {log book out : List ℕ} {n number : ℕ} {rs rs' : List Record} {w : Desk} → rs ≡ rs'
    → Read log book out n number rs w
    → Read log book out n number rs' w
read_of {log} {book} {out} {n} {number} {w = w} e q = subst (λ (x : List Record). Read log book out n number x w) e q

-- where a day is open, the tables that are lent are its own
stands_log : {w : Desk} {log : List ℕ} {rs : List Record} {book out : List ℕ} {len : ℕ}
    → Stands w (paper (during log rs) book out len) → w.log ≡ log
stands_log (busy n a) = refl

-- so a row's length is held against theirs
sized : {w : Desk} {log : List ℕ} {rs : List Record} {book out : List ℕ} {len : ℕ} (row : List ℕ) (t : Bool)
    → Stands w (paper (during log rs) book out len) → eqb (length row) (row_size w.log) ≡ t
    → eqb (length row) (row_size log) ≡ t
sized row t s e = subst (λ (held : List ℕ). eqb (length row) (row_size held) ≡ t) (stands_log s) e

-- its rows, from a desk on which the day is open
module _ (log book out : List ℕ) (room : ℕ) (b : book_fault (header_of log).rulebook (header_of log).date book ≡ 0)
    (l : full_room ≤ length out) where
  -- the end's refusal is the record's own
  plain : {w : Desk} (rs : List Record) (row : List ℕ) → Stands w (paper (during log rs) book out room)
      → eqb (length row) (row_size w.log) ≡ true
      → end_refusal log rs row book (length out) ≡ row_fault (day_in log rs) row
  plain rs row s e = end_plain log rs row book (length out) (sized row true s e) b l

  reads : {w w' : Desk} {rows : List (List ℕ)} {n : ℕ} (rs : List Record)
      → Stands w (paper (during log rs) book out room) → Reads w rows n w'
      → Read log book out n (rows_number log rs rows) (records_in rs rows) w'
  reads rs s stops = record { same = rows_stop log rs; written = λ z. absurd (omega arith) }
  reads rs s (cut {row = row} {more = more} e) =
      record { same = rows_cut log rs row more (sized row false s e); written = λ z. absurd (omega arith) }
  reads rs s (takes {row = row} {more = more} e t m z r) =
      let z' : take_number log rs row ≡ 0 = sym (take_number_is row s m) ∙ z in
      let q = reads (record_of row ∷ rs) (take_stands row s m z') r in
      let next = rows_take log rs row more (sized row true s e) t in
      read_of (records_take log rs row more t)
      (record { same = q.same ∙ sym (or_else_lem (take_number log rs row) _ z') ∙ next; written = q.written })
  reads rs s (take_refused {row = row} {more = more} e t m f) =
      let q = take_number_is row s m in record {
        same =
            q ∙ sym (or_first (take_number log rs row) _ (λ z. f (q ∙ z)))
            ∙ rows_take log rs row more (sized row true s e) t;
        written = λ z. absurd (f z);
      }
  reads rs s (end_refused {row = row} {more = more} e t m f) =
      let q = end_number_lem row s m ∙ plain rs row s e in record {
        same =
            q ∙ sym (or_first (row_fault (day_in log rs) row) _ (λ z. f (q ∙ z)))
            ∙ rows_end log rs row more (sized row true s e) t;
        written = λ z. absurd (f z);
      }
  reads rs s (ends {row = row} e t m z) =
      let q = end_number_lem row s m in
      let f : row_fault (day_in log rs) row ≡ 0 = sym (q ∙ plain rs row s e) ∙ z in
      read_of (records_end log rs row [] t)
      (record {
        same = sym (or_else_lem (row_fault (day_in log rs) row) 0 f) ∙ rows_end log rs row [] (sized row true s e) t;
        written = λ _. end_holds row s m (sym q ∙ z);
      })
  reads rs s (follows {row = row} {next = next} {more = more} e t m z) =
      let f : row_fault (day_in log rs) row ≡ 0 = sym (end_number_lem row s m ∙ plain rs row s e) ∙ z in record {
        same =
            sym (or_else_lem (row_fault (day_in log rs) row) 1 f)
            ∙ rows_end log rs row (next ∷ more) (sized row true s e) t;
        written = λ z. absurd (omega arith);
      }

-- the whole of it, from the clerk's desk
pub clerk_rests : (book : List ℕ) → Stands (clerk_desk book) (paper idle book (replicate full_room 0) clerk_counts)
clerk_rests book = rest (length-replicate {A = ℕ} clerk_counts 0)

pub judges : {n : ℕ} {w : Desk} (book log : List ℕ) → Judges book log n w
    → Read (front log) book (replicate full_room 0) n (log_number book log) (records_in [] (rows_of log)) w
unfolding log_number
judges book log (open_refused m f) =
    let q = open_number (clerk_rests book) m in record {
      same = q ∙ sym (or_first (handed_fault (front log) book clerk_counts) _ (λ z. f (q ∙ z)));
      written = λ z. absurd (f z);
    }
judges book log (opened m z r) =
    let s = clerk_rests book in
    let f : handed_fault (front log) book clerk_counts ≡ 0 = sym (open_number s m) ∙ z in
    let fits = (handed_parts (front log) book clerk_counts f).1 in
    let full : full_room ≤ length (replicate {A = ℕ} full_room 0) = omega
    (arith, length-replicate {A = ℕ} full_room 0) in
    let q = reads (front log) book (replicate full_room 0) clerk_counts fits full [] (open_stands s m f) r in
    record { same = q.same ∙ sym (or_else_lem (handed_fault (front log) book clerk_counts) _ f); written = q.written }

-- ---- a list of logs
-- what is chosen where the number is 0, and else the same
pick_where : (n m : ℕ) (a a' b : List ℕ) → n ≡ m → (n ≡ 0 → a ≡ a') → pick (eqb n 0) a b ≡ pick (eqb m 0) a' b
pick_where n m a a' b e h = go (eqb n 0) refl
  where
    both : eqb n 0 ≡ eqb m 0
    both = ap (λ (k : ℕ). eqb k 0) e

    go : (t : Bool) → eqb n 0 ≡ t → pick (eqb n 0) a b ≡ pick (eqb m 0) a' b
    go true q = sym (pick_yes _ _ _ _ q refl) ∙ h (eqb-true n 0 q) ∙ pick_yes _ _ _ _ (sym both ∙ q) refl
    go false q = sym (pick_no _ _ _ _ q refl) ∙ pick_no _ _ _ _ (sym both ∙ q) refl

same_judged : {n n' : ℕ} {printed printed' book book' : List ℕ} → n ≡ n' → printed ≡ printed' → book ≡ book'
    → ◌≡◌ {A = Judged} (record { number = n; printed = printed; book = book })
    (record { number = n'; printed = printed'; book = book' })
same_judged p q r = rw (p, q, r)

file_is : {n : ℕ} {w : Desk} (book log : List ℕ) → Judges book log n w → file_after book n w ≡ ruled_file book log
unfolding ruled_file
file_is {n} book log j =
    let q = judges book log j in
    pick_where n (log_number book log) _ _ book q.same (λ z. (q.written z).in_book)

printed_is : {n : ℕ} {w : Desk} (book log : List ℕ) → Judges book log n w
    → printed_of n w.out ≡ printed_of (log_number book log) (put (replicate full_room 0) 0 (day_findings book log))
printed_is {n} book log j =
    let q = judges book log j in
    pick_where n (log_number book log) _ _ [] q.same (λ z. (q.written z).in_out)

judges_all : {book : List ℕ} {logs : List (List ℕ)} {js : List Judged} → JudgesAll book logs js
    → js ≡ ruled_logs book logs
unfolding ruled_logs
judges_all no_log = refl
judges_all (one_log {book = book} {log = log} {logs = logs} j r) =
    ap₂ {C = List Judged} (λ x xs. x ∷ xs) (same_judged (judges book log j).same (printed_is book log j)
    (file_is book log j))
    (judges_all r ∙ ap (λ (b : List ℕ). ruled_logs b logs) (file_is book log j))

pub judges_ruled : LogsRuled
judges_ruled book logs js r = judges_all r
