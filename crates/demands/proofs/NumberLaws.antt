-- Which numbers a call by the rules can have: never 19, and never 17 on a sound book. Assumes nothing.
use mathlib.Core.Path.{◌≡◌, refl, sym, ap, ◌∙◌}
use mathlib.Core.Bool.{true}
use mathlib.Core.List.{List}
use Prim.Native.Nat.{ℕ, ◌≤◌, ◌<◌}
use native.Mathlib.Omega.{arith}
use borrow.Author.Tests.{eq-eqb}
use lib.ListN.{length}
use Rattle.wire.specs.Outcomes.{number_in as number_of}
use Rattle.wire.proofs.ChoiceLaws.{pick_not, or_not, pick_le, or_most, pick_no, flip_no}
use Rattle.wire.proofs.RefusalLaws.{number_answered}
use Rattle.rules.specs.declared.kinds.Kinds.{Kinds}
use Rattle.rules.specs.Kinds.{kinds_of}
use Rattle.places.specs.Places.{book_size}
use Rattle.book.specs.Shape.{day_shape, rulebook_of, shape_of}
use Rattle.posting.specs.Fresh.{fresh_fault_as}
use Rattle.book.specs.Ask.{ask_fault_as, ask_answer_as}
use Rattle.book.specs.Fits.{fits_fault, book_fault}
use Rattle.book.specs.Sound.{sound}
use Rattle.book.proofs.BookLaws.{sound_facts, day_kinds}
use Rattle.daylog.specs.declared.record.Record.{Record}
use Rattle.daylog.specs.Header.{header_of, log_fault, head_fault, entries_fault, tables_of}
use Rattle.daylog.specs.Records.{record_of}
use Rattle.tables.specs.Tables.{Tables}
use Rattle.verdict.specs.Verdict.{Verdict}
use Rattle.verdict.specs.Settle.{short_fault}
use Rattle.desk.specs.declared.state.Day.{Day}
use Rattle.desk.specs.declared.state.State.{State}
use Rattle.desk.specs.declared.state.State.TheVariants.{Closed, Open}
use Rattle.desk.specs.Abandon.{abandon_fault}
use Rattle.daylog.specs.declared.header.Header.{Header}
use Rattle.daylog.specs.Changed.{changed_fault}
use Rattle.posting.proofs.FreshLaws.{fresh_most}
use Rattle.book.proofs.AskLaws.{ask_most}
use Rattle.book.proofs.FitsLaws.{fits_most}
use Rattle.verdict.proofs.SettleLaws.{short_most}
use Rattle.desk.specs.Books.{fresh_fault, ask_fault, ask_answer}
use Rattle.counts.specs.Counting.{fields_fault}
use Rattle.counts.specs.Weigh.{record_fault, weigh_fault}
use Rattle.counts.specs.Cells.{plan_fault}
use Rattle.counts.specs.declared.weigh.Plan.{Plan}
use Rattle.desk.specs.Open.{few_fault, handed_fault, open_fault}
use Rattle.desk.specs.Take.{sizes_fault, held_fault, day_fault, take_fault}
use Rattle.desk.specs.End.{row_fault, call_fault, lent_fault, cells_fault, counts_fault, end_fault}
use Rattle.demands.specs.Calls.{Step, make_book, open_day, take_record, end_day, abandon_day, ask_book, lend_findings}
use Rattle.demands.specs.Calls.{number_in}
use Rattle.demands.specs.Paper.{Course, idle, during, Paper, day_in, take_number, end_refusal, open_ruled}
use Rattle.demands.specs.Paper.{take_ruled, end_ruled, rule}

-- ---- how high the numbers go
pub log_most : (log : List ℕ) → log_fault log ≤ 8
unfolding log_fault head_fault entries_fault
log_most log =
    pick_le _ 1 _ 8 (omega arith) (pick_le _ 2 _ 8 (omega arith) (pick_le _ 3 _ 8 (omega arith)
    (pick_le _ 4 _ 8 (omega arith) (pick_le _ 5 _ 8 (omega arith) (pick_le _ 6 _ 8 (omega arith)
    (pick_le _ 1 _ 8 (omega arith) (pick_le _ 7 _ 8 (omega arith) (pick_le _ 8 _ 8 (omega arith) (omega arith)))))))))

fields_most : (t : Tables) (r : Record) → fields_fault t r ≤ 13
unfolding fields_fault
fields_most t r =
    pick_le _ 11 _ 13 (omega arith) (pick_le _ 12 _ 13 (omega arith)
    (pick_le _ 13 _ 13 (omega arith) (pick_le _ 13 _ 13 (omega arith) (omega arith))))

record_most : (version : ℕ) (t : Tables) (row : List ℕ) → record_fault version t row ≤ 13
unfolding record_fault
record_most version t row = pick_le _ 11 _ 13 (omega arith) (fields_most t (record_of row))

row_most : (day : Day) (row : List ℕ) → row_fault day row ≤ 15
unfolding row_fault
row_most day row = pick_le _ 11 _ 15 (omega arith) (pick_le _ 15 _ 15 (omega arith) (omega arith))

few_most : (kinds : Kinds) (len : ℕ) → few_fault kinds len ≤ 22
unfolding few_fault
few_most kinds len = pick_le _ 16 0 22 (omega arith) (omega arith)

sizes_most : (day : Day) (row : List ℕ) (len : ℕ) → sizes_fault day row len ≤ 22
unfolding sizes_fault
sizes_most day row len = pick_le _ 1 _ 22 (omega arith) (pick_le _ 16 0 22 (omega arith) (omega arith))

changed_most : (head : Header) (log : List ℕ) → changed_fault head log ≤ 22
changed_most head log = pick_le _ 19 0 22 (omega arith) (omega arith)

plan_most : (kinds : Kinds) (taken : ℕ) (p : Plan) (c : List ℕ) → plan_fault kinds taken p c ≤ 22
unfolding plan_fault
plan_most kinds taken p c = pick_le _ 14 _ 22 (omega arith) (pick_le _ 19 0 22 (omega arith) (omega arith))

cells_most : (kinds : Kinds) (taken : ℕ) (c : List ℕ) → cells_fault kinds taken c ≤ 22
unfolding cells_fault
cells_most kinds taken c = pick_le _ 19 0 22 (omega arith) (omega arith)

-- every number that a call names is a refusal's
handed_most : (log book : List ℕ) (len : ℕ) → handed_fault log book len ≤ 22
unfolding handed_fault
handed_most log book len =
    or_most _ _ 22 (omega (arith, log_most log)) (or_most _ _ 22 (fits_most _ _ _ _) (few_most _ _))

pub open_most : (state : State) (log book : List ℕ) (len : ℕ) → open_fault state log book len ≤ 22
unfolding open_fault
open_most Closed log book len = handed_most log book len
open_most (Open day) log book len = omega arith

pub take_most : (state : State) (log row c : List ℕ) → take_fault state log row c ≤ 22
unfolding take_fault day_fault held_fault weigh_fault
take_most Closed log row c = omega arith
take_most (Open day) log row c =
    or_most _ _ 22
    (or_most _ _ 22 (sizes_most day row (length c))
    (or_most _ _ 22 (changed_most day.head log)
    (omega (arith, record_most day.head.version (tables_of log) row))))
    (plan_most _ _ _ _)

pub end_most : (state : State) (log row book c : List ℕ) (room : ℕ) → end_fault state log row book c room ≤ 22
unfolding end_fault lent_fault call_fault counts_fault
end_most Closed log row book c room = omega arith
end_most (Open day) log row book c room =
    or_most _ _ 22
    (or_most _ _ 22 (or_most _ _ 22 (sizes_most day row (length c)) (changed_most day.head log))
    (or_most _ _ 22 (omega (arith, row_most day row)) (fits_most _ _ _ _)))
    (or_most _ _ 22 (cells_most _ _ _) (short_most _ _))

pub abandon_most : (state : State) → abandon_fault state ≤ 22
abandon_most Closed = omega arith
abandon_most (Open day) = omega arith

taking_most : (log : List ℕ) (rs : List Record) (row : List ℕ) → take_number log rs row ≤ 22
unfolding take_number
taking_most log rs row =
    pick_le _ 1 _ 22 (omega arith)
    (or_most _ _ 22 (omega (arith, record_most (header_of log).version (tables_of log) row))
    (pick_le _ 14 0 22 (omega arith) (omega arith)))

ending_most : (log : List ℕ) (rs : List Record) (row book : List ℕ) (room : ℕ) → end_refusal log rs row book room ≤ 22
unfolding end_refusal
ending_most log rs row book room =
    pick_le _ 1 _ 22 (omega arith)
    (or_most _ _ 22 (omega (arith, row_most (day_in log rs) row))
    (or_most _ _ 22 (fits_most _ _ _ _) (short_most _ _)))

-- ---- the number that an answer has
pub ask_number_lem : (b : List ℕ) (group kind family : ℕ)
    → number_of (ask_answer b group kind family) ≡ ask_fault b group kind family
unfolding ask_answer_as
ask_number_lem b group kind family = number_answered _ _ (ask_most _ b group kind family)

-- the refusal that the rules give to a step
unfoldable pub refusal : Paper → Course → Step → ℕ
refusal p course (make_book rulebook) = fresh_fault (length p.book) rulebook
refusal p course (ask_book group kind family) = ask_fault p.book group kind family
refusal p course (lend_findings out) = 0
refusal p idle (open_day log) = handed_fault log p.book p.len
refusal p idle (take_record row) = 10
refusal p idle (end_day row) = 10
refusal p idle abandon_day = 10
refusal p (during log rs) (open_day other) = 10
refusal p (during log rs) (take_record row) = take_number log rs row
refusal p (during log rs) (end_day row) = end_refusal log rs row p.book (length p.out)
refusal p (during log rs) abandon_day = 0

pub number_is : (p : Paper) (course : Course) (c : Step) → number_in (rule p course c).reply ≡ refusal p course c
unfolding rule open_ruled take_ruled end_ruled refusal
number_is p course (make_book rulebook) = number_answered _ _ (fresh_most _ (length p.book) rulebook)
number_is p course (ask_book group kind family) = ask_number_lem p.book group kind family
number_is p course (lend_findings out) = refl
number_is p idle (open_day log) = number_answered _ _ (handed_most log p.book p.len)
number_is p idle (take_record row) = refl
number_is p idle (end_day row) = refl
number_is p idle abandon_day = number_answered 10 _ (omega arith)
number_is p (during log rs) (open_day other) = number_answered 10 _ (omega arith)
number_is p (during log rs) (take_record row) = number_answered _ _ (taking_most log rs row)
number_is p (during log rs) (end_day row) = number_answered _ _ (ending_most log rs row p.book (length p.out))
number_is p (during log rs) abandon_day = number_answered 0 _ (omega arith)

-- ---- never 19
book_not : (rulebook date : ℕ) (book : List ℕ) → book_fault rulebook date book ≡ 19 → ⊥
unfolding fits_fault
book_not rulebook date book =
    pick_not _ 17 _ 19 (λ e. omega arith)
    (pick_not _ 18 _ 19 (λ e. omega arith) (pick_not _ 9 _ 19 (λ e. omega arith) (λ e. omega arith)))

few_not : (m : ℕ) (kinds : Kinds) (len : ℕ) → 16 < m → few_fault kinds len ≡ m → ⊥
unfolding few_fault
few_not m kinds len h = pick_not _ 16 _ m (λ e. omega arith) (λ e. omega arith)

short_not : (m : ℕ) (v : Verdict) (room : ℕ) → 16 < m → (m ≡ 20 → ⊥) → short_fault v room ≡ m → ⊥
unfolding short_fault
short_not m v room h k = pick_not _ 20 _ m (λ e. k (sym e)) (λ e. omega arith)

-- a number above 16 that the book does not give
module _ (m : ℕ) (h : 16 < m) (book : List ℕ) (b : (rulebook date : ℕ) → book_fault rulebook date book ≡ m → ⊥) where
  handed_not : (log : List ℕ) (len : ℕ) → handed_fault log book len ≡ m → ⊥
  unfolding handed_fault
  handed_not log len =
      or_not (log_fault log) _ m (λ e. omega (arith, log_most log))
      (or_not (book_fault (header_of log).rulebook (header_of log).date book) _ m (b _ _) (few_not m _ len h))

  take_not : (log : List ℕ) (rs : List Record) (row : List ℕ) → take_number log rs row ≡ m → ⊥
  unfolding take_number
  take_not log rs row =
      pick_not _ 1 _ m (λ e. omega arith)
      (or_not (record_fault (header_of log).version (tables_of log) row) _ m
      (λ e. omega (arith, record_most (header_of log).version (tables_of log) row))
      (pick_not _ 14 _ m (λ e. omega arith) (λ e. omega arith)))

  end_not : (log : List ℕ) (rs : List Record) (row : List ℕ) (room : ℕ) → (m ≡ 20 → ⊥)
      → end_refusal log rs row book room ≡ m → ⊥
  unfolding end_refusal
  end_not log rs row room k =
      pick_not _ 1 _ m (λ e. omega arith)
      (or_not (row_fault (day_in log rs) row) _ m (λ e. omega (arith, row_most (day_in log rs) row))
      (or_not (book_fault (header_of log).rulebook (header_of log).date book) _ m (b _ _) (short_not m _ room h k)))

-- nor fresh or ask
module _ (m : ℕ) (h : 16 < m) (k : m ≡ 20 → ⊥) (p : Paper)
    (b : (rulebook date : ℕ) → book_fault rulebook date p.book ≡ m → ⊥)
    (f : (rulebook : ℕ) → fresh_fault (length p.book) rulebook ≡ m → ⊥)
    (q : (group kind family : ℕ) → ask_fault p.book group kind family ≡ m → ⊥) where
  refusal_not : (course : Course) (c : Step) → refusal p course c ≡ m → ⊥
  unfolding refusal
  refusal_not course (make_book rulebook) = f rulebook
  refusal_not course (ask_book group kind family) = q group kind family
  refusal_not course (lend_findings out) = λ e. omega arith
  refusal_not idle (open_day log) = handed_not m h p.book b log p.len
  refusal_not idle (take_record row) = λ e. omega arith
  refusal_not idle (end_day row) = λ e. omega arith
  refusal_not idle abandon_day = λ e. omega arith
  refusal_not (during log rs) (open_day other) = λ e. omega arith
  refusal_not (during log rs) (take_record row) = take_not m h p.book b log rs row
  refusal_not (during log rs) (end_day row) = end_not m h p.book b log rs row (length p.out) k
  refusal_not (during log rs) abandon_day = λ e. omega arith

fresh_not : (len rulebook : ℕ) → fresh_fault len rulebook ≡ 19 → ⊥
unfolding fresh_fault_as
fresh_not len rulebook =
    pick_not _ 4 _ 19 (λ e. omega arith) (pick_not _ 17 _ 19 (λ e. omega arith) (λ e. omega arith))

ask_not : (b : List ℕ) (group kind family : ℕ) → ask_fault b group kind family ≡ 19 → ⊥
unfolding ask_fault_as
ask_not b group kind family =
    pick_not _ 17 _ 19 (λ e. omega arith) (pick_not _ 21 _ 19 (λ e. omega arith) (λ e. omega arith))

pub never_19 : (p : Paper) (course : Course) (c : Step) → refusal p course c ≡ 19 → ⊥
never_19 p =
    refusal_not 19 (omega arith) (λ e. omega arith) p (λ r d. book_not r d p.book)
    (λ r. fresh_not (length p.book) r) (λ g k f. ask_not p.book g k f)

-- ---- never 17 on a sound book, where a fresh book of any rulebook is as long
module _ (book : List ℕ) (good : sound book ≡ true) where
  sound_book : (rulebook date : ℕ) → book_fault rulebook date book ≡ 17 → ⊥
  unfolding fits_fault
  sound_book rulebook date e =
      pick_not _ 18 _ 17 (λ q. omega arith) (pick_not _ 9 _ 17 (λ q. omega arith) (λ q. omega arith))
      (pick_no _ _ _ _ (flip_no _ good) refl ∙ e)

  fresh_long : (rulebook : ℕ) → kinds_of rulebook ≡ kinds_of (rulebook_of book)
      → length book ≡ book_size (day_shape rulebook).kinds
  fresh_long rulebook same =
      (sound_facts (shape_of book) book good).long
      ∙ ap book_size (day_kinds (rulebook_of book) ∙ sym same ∙ sym (day_kinds rulebook))

  sound_fresh : (rulebook : ℕ) → kinds_of rulebook ≡ kinds_of (rulebook_of book)
      → fresh_fault (length book) rulebook ≡ 17 → ⊥
  unfolding fresh_fault_as
  sound_fresh rulebook same =
      pick_not _ 4 _ 17 (λ e. omega arith)
      (λ e.
      absurd
      (omega (arith, pick_no _ _ _ _ (flip_no _ (eq-eqb (length book) _ (fresh_long rulebook same))) refl ∙ e)))

  sound_ask : (group kind family : ℕ) → ask_fault book group kind family ≡ 17 → ⊥
  unfolding ask_fault_as
  sound_ask group kind family e =
      pick_not _ 21 _ 17 (λ q. omega arith) (λ q. omega arith) (pick_no _ _ _ _ (flip_no _ good) refl ∙ e)

pub never_17 : (p : Paper) (course : Course) (c : Step) → sound p.book ≡ true
    → ((rulebook : ℕ) → kinds_of rulebook ≡ kinds_of (rulebook_of p.book)) → refusal p course c ≡ 17 → ⊥
never_17 p course c good same =
    refusal_not 17 (omega arith) (λ e. omega arith) p (sound_book p.book good)
    (λ r. sound_fresh p.book good r (same r)) (sound_ask p.book good) course c
