-- The same steps by the rules alone: an open day is the list of the records that it took. No cells.
use Rattle.std.specs.Prelude.{ℕ, ◌+◌, not, List, [], ◌∷◌, map, leb, eqb, length, Result, Ok}
use Rattle.wire.specs.Choice.{pick, or_else}
use Rattle.wire.specs.Outcomes.{answered, refused}
use Rattle.wire.specs.declared.refusal.Refusal.{Refusal}
use Rattle.book.specs.Fits.{book_fault}
use Rattle.daylog.specs.declared.record.Record.{Record}
use Rattle.daylog.specs.Header.{header_of, tables_of}
use Rattle.daylog.specs.Records.{record_of}
use Rattle.daylog.specs.Rows.{row_size}
use Rattle.desk.specs.declared.state.Day.{Day}
use Rattle.desk.specs.declared.state.State.TheVariants.{Closed, Open}
use Rattle.verdict.specs.Verdict.{found_count}
use Rattle.verdict.specs.Settle.{short_fault, written}
use Rattle.desk.specs.declared.state.State.{State}
use Rattle.desk.specs.Books.{fresh_fault, ask_answer}
use Rattle.counts.specs.Weigh.{reasons_in, record_fault}
use Rattle.desk.specs.Open.{handed_fault}
use Rattle.desk.specs.End.{row_fault}
use Rattle.demands.specs.Counts.{day_verdict}
use Rattle.demands.specs.Days.{blank}
use Rattle.demands.specs.Calls.{Step, make_book, open_day, take_record, end_day, abandon_day, ask_book, lend_findings}
use Rattle.demands.specs.Calls.{Reply, made, moved, took, ended, told, lent, number_in}

-- no day is open, or one is, with its tables as bytes and the records that it took, the latest first
pub data Course : Type 0 where
  idle : Course
  during : (log : List ℕ) → (records : List Record) → Course

-- the day's course, the book, the findings buffer, and how many counts are lent
pub record Paper : Type 0 where
  pub course : Course
  pub book : List ℕ
  pub out : List ℕ
  pub len : ℕ

-- the answer to a call, and what it leaves
pub record Ruled : Type 0 where
  pub reply : Reply
  pub after : Paper

-- the open day as a state
abbrev pub day_in : List ℕ → List Record → Day
day_in log rs = record { head = header_of log; taken = length rs }

-- ---- the refusals. "Take: 10, 1, .. 11, 12, 13, 14": of its own doing, 16 and 19 never come
unfoldable pub take_number : List ℕ → List Record → List ℕ → ℕ
take_number log rs row =
    pick (not (eqb (length row) (row_size log))) 1
    (or_else (record_fault (header_of log).version (tables_of log) row) (pick (leb 1000000 (length rs)) 14 0))

-- "End: 10, 1, .. 11, 15, 17, 18, 9, .. 20"
unfoldable pub end_refusal : List ℕ → List Record → (row book : List ℕ) → ℕ → ℕ
end_refusal log rs row book room =
    pick (not (eqb (length row) (row_size log))) 1
    (or_else (row_fault (day_in log rs) row)
    (or_else (book_fault (header_of log).rulebook (header_of log).date book)
    (short_fault (day_verdict (tables_of log) rs) room)))

-- ---- what is left where the number is 0, and where it is not
-- an answer that moves the state
abbrev pub moved_by : ℕ → State → Result State Refusal
moved_by fault next = answered fault (Ok next) refused

-- a fresh book, or the buffer as it was
unfoldable pub fresh_book : List ℕ → (rulebook : ℕ) → List ℕ
fresh_book book rulebook = pick (eqb (fresh_fault (length book) rulebook) 0) (blank rulebook) book

abbrev pub resting : Paper → (book out : List ℕ) → Paper
resting p book out = record { course = idle; book = book; out = out; len = p.len }

abbrev pub at : Paper → Course → Paper
at p course = record { course = course; book = p.book; out = p.out; len = p.len }

unfoldable pub open_ruled : Paper → List ℕ → ℕ → Ruled
open_ruled p log fault =
    record {
      reply = moved (moved_by fault (Open (day_in log [])));
      after = pick (eqb fault 0)
          (at p (during log [])) p;
    }

-- a record that is taken passes on the clauses of its own codes (02, K5)
unfoldable pub take_ruled : Paper → List ℕ → List Record → List ℕ → ℕ → Ruled
take_ruled p log rs row fault = record {
  reply =
      let next = Open (record { head = header_of log; taken = length rs + 1 }) in
      took (answered fault (Ok (next, reasons_in log row)) refused);
  after = pick (eqb fault 0) (at p (during log (record_of row ∷ rs))) p;
}

-- "Ending writes the book (totals, last date), closes the day .. and writes findings from the buffer's start"
unfoldable pub end_ruled : Paper → List ℕ → List Record → ℕ → Ruled
end_ruled p log rs fault =
    let v = day_verdict (tables_of log) rs in
    let buffers = written v (header_of log).date p.book p.out in record {
      reply = ended (answered fault (Ok (Closed, found_count v)) refused);
      after = pick (eqb fault 0) (resting p buffers.0 buffers.1) p;
    }

-- "10: a day is open for open; none is for take, end, abandon"
abbrev pub no10 : Paper → Ruled
no10 p = record { reply = moved (moved_by 10 Closed); after = p }

-- ---- each step
unfoldable pub rule : Paper → Course → Step → Ruled
rule p course (make_book rulebook) =
    let fault = fresh_fault (length p.book) rulebook in record {
      reply = made (answered fault (Ok tt) refused);
      after = record { course = p.course; book = fresh_book p.book rulebook; out = p.out; len = p.len };
    }
rule p course (lend_findings out) =
    record { reply = lent; after = record { course = p.course; book = p.book; out = out; len = p.len } }
rule p course (ask_book group kind family) = record { reply = told (ask_answer p.book group kind family); after = p }
rule p idle (open_day log) = open_ruled p log (handed_fault log p.book p.len)
rule p idle (take_record row) = record { reply = took (refused 10); after = p }
rule p idle (end_day row) = record { reply = ended (refused 10); after = p }
rule p idle abandon_day = no10 p
rule p (during log rs) (open_day other) = no10 p
rule p (during log rs) (take_record row) = take_ruled p log rs row (take_number log rs row)
rule p (during log rs) (end_day row) = end_ruled p log rs (end_refusal log rs row p.book (length p.out))
rule p (during log rs) abandon_day = record { reply = moved (moved_by 0 Closed); after = at p idle }

-- a list of steps
unfoldable pub rules : Paper → List Step → List Ruled
rules p [] = []
rules p (c ∷ cs) = rule p p.course c ∷ rules (rule p p.course c).after cs

-- their numbers, 0 for no refusal
unfoldable pub numbers_on : Paper → List Step → List ℕ
numbers_on p cs = map (λ r. number_in r.reply) (rules p cs)

-- the paper that they leave
unfoldable pub paper_after : Paper → List Step → Paper
paper_after p [] = p
paper_after p (c ∷ cs) = paper_after (rule p p.course c).after cs
