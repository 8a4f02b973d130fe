-- Lists of steps by the rules, put together: their numbers, the findings that they tell of, and the paper that they
-- leave. Assumes nothing.
use mathlib.Core.Path.{◌≡◌, refl, sym, ap, ap₂, ◌∙◌}
use mathlib.Core.Bool.{true}
use mathlib.Core.List.{List, [], ◌∷◌, ◌++◌, map}
use Prim.Native.Nat.{ℕ, ◌<◌}
use native.Mathlib.Omega.{arith}
use borrow.Author.Tests.{eq-eqb, lt-leb, le-ltb}
use lib.ListN.{length}
use Rattle.wire.specs.Buffers.{put}
use Rattle.wire.proofs.ChoiceLaws.{pick_no, flip_no, or_else_lem}
use Rattle.wire.proofs.AnswerLaws.{answer_done}
use Rattle.rules.specs.Kinds.{kinds_of}
use Rattle.rules.proofs.KindLaws.{kinds_most}
use Rattle.places.specs.Places.{cells}
use Rattle.book.specs.Shape.{rulebook_of}
use Rattle.book.specs.Layout.{last_date}
use Rattle.book.specs.Sound.{sound}
use Rattle.book.specs.Fits.{fits_fault, book_fault}
use Rattle.daylog.specs.declared.record.Record.{Record}
use Rattle.daylog.specs.Header.{header_of, log_fault, tables_of}
use Rattle.verdict.specs.Verdict.{findings, book_after, found_count}
use Rattle.desk.specs.Open.{few_fault, handed_fault}
use Rattle.demands.specs.Counts.{day_verdict}
use Rattle.demands.specs.Calls.{Step, open_day, end_day, Reply, ended, number_in}
use Rattle.demands.specs.Paper.{idle, during, Paper, end_refusal, open_ruled, end_ruled, rule, rules, numbers_on}
use Rattle.demands.specs.Paper.{paper_after}
use Rattle.demands.specs.Logs.{clerk_counts}
use Rattle.demands.specs.Worked.{found_by}
use Rattle.demands.proofs.CallLaws.{paper}
use Rattle.demands.proofs.NumberLaws.{refusal, number_is}
use Rattle.demands.proofs.PaperLaws.{after_open, after_end}

-- ---- one list of steps after another
-- what is read in each answer
abbrev pub read_on : (Reply → ℕ) → Paper → List Step → List ℕ
read_on read p cs = map (λ r. read r.reply) (rules p cs)

read_two : (read : Reply → ℕ) (p : Paper) (cs ds : List Step)
    → read_on read p (cs ++ ds) ≡ read_on read p cs ++ read_on read (paper_after p cs) ds
unfolding rules paper_after
read_two read p [] ds = refl
read_two read p (c ∷ cs) ds =
    ap (λ (l : List ℕ). read (rule p p.course c).reply ∷ l) (read_two read (rule p p.course c).after cs ds)

after_two : (p : Paper) (cs ds : List Step) → paper_after p (cs ++ ds) ≡ paper_after (paper_after p cs) ds
unfolding paper_after
after_two p [] ds = refl
after_two p (c ∷ cs) ds = after_two (rule p p.course c).after cs ds

-- ---- a list of steps by the rules: its numbers, how many findings each step tells of, and the paper that it leaves
pub record Goes (p : Paper) (cs : List Step) (ns ks : List ℕ) (q : Paper) : Type 0 where
  pub numbers : numbers_on p cs ≡ ns
  pub counts : read_on found_by p cs ≡ ks
  pub after : paper_after p cs ≡ q

-- one step
pub goes_one : (p : Paper) (c : Step) (n k : ℕ) (q : Paper) → refusal p p.course c ≡ n
    → found_by (rule p p.course c).reply ≡ k
    → (rule p p.course c).after ≡ q → Goes p (c ∷ []) (n ∷ []) (k ∷ []) q
unfolding numbers_on rules paper_after
goes_one p c n k q e f g = record {
  numbers = ap (λ (i : ℕ). i ∷ []) (number_is p p.course c ∙ e);
  counts = ap (λ (i : ℕ). i ∷ []) f;
  after = g;
}

-- one list after another
pub goes_on : {p q r : Paper} {cs ds : List Step} {ns ms ks js : List ℕ} → Goes p cs ns ks q → Goes q ds ms js r
    → Goes p (cs ++ ds) (ns ++ ms) (ks ++ js) r
unfolding numbers_on
goes_on {p} {q} {r} {cs} {ds} g h = record {
  numbers =
      read_two number_in p cs ds
      ∙ ap₂ (λ (a b : List ℕ). a ++ b) g.numbers (ap (λ (x : Paper). read_on number_in x ds) g.after ∙ h.numbers);
  counts =
      read_two found_by p cs ds
      ∙ ap₂ (λ (a b : List ℕ). a ++ b) g.counts (ap (λ (x : Paper). read_on found_by x ds) g.after ∙ h.counts);
  after = after_two p cs ds ∙ ap (λ (x : Paper). paper_after x ds) g.after ∙ h.after;
}

-- ---- a day opened and ended, on any tables that have no fault and any book that fits
pub book_fits : (rulebook date : ℕ) (book : List ℕ) → sound book ≡ true → rulebook_of book ≡ rulebook
    → last_date book < date → book_fault rulebook date book ≡ 0
unfolding fits_fault
book_fits rulebook date book good same later =
    sym
    (pick_no _ _ 17 _ (flip_no _ good)
    (pick_no _ _ 18 _ (flip_no _ (eq-eqb _ _ same))
    (pick_no _ _ 9 _ (lt-leb _ _ later) refl)))

-- the clerk's counts are enough for every rulebook
room_good : (rulebook : ℕ) → few_fault (kinds_of rulebook) clerk_counts ≡ 0
unfolding few_fault
room_good rulebook =
    sym (pick_no _ _ 16 0 (le-ltb clerk_counts (cells (kinds_of rulebook)) (omega (arith, kinds_most rulebook))) refl)

pub opens : (log book out : List ℕ) → log_fault log ≡ 0
    → book_fault (header_of log).rulebook (header_of log).date book ≡ 0
    → Goes (paper idle book out clerk_counts) (open_day log ∷ []) (0 ∷ []) (0 ∷ [])
    (paper (during log []) book out clerk_counts)
unfolding refusal rule open_ruled handed_fault
opens log book out e f =
    let z : handed_fault log book clerk_counts ≡ 0 =
    or_else_lem (log_fault log) _ e ∙ or_else_lem (book_fault (header_of log).rulebook (header_of log).date book) _ f
    ∙ room_good (header_of log).rulebook in
    goes_one _ _ 0 0 _ z refl (sym (after_open (paper idle book out clerk_counts) log z))

module _ (log : List ℕ) (rs : List Record) (book out : List ℕ) where
  -- what an accepted end leaves
  abbrev pub end_paper : Paper
  end_paper =
      let t = tables_of log in
      let date = (header_of log).date in
      paper idle (book_after (day_verdict t rs) date book) (put out 0 (findings (day_verdict t rs) date book))
      clerk_counts

  pub closes : (row : List ℕ) → end_refusal log rs row book (length out) ≡ 0
      → Goes (paper (during log rs) book out clerk_counts) (end_day row ∷ []) (0 ∷ [])
      (found_count (day_verdict (tables_of log) rs) ∷ []) end_paper
  unfolding refusal rule end_ruled
  closes row e =
      goes_one _ _ 0 _ _ e (ap (λ a. found_by (ended a)) (sym (answer_done _ _ _ e refl)))
      (sym (after_end (paper (during log rs) book out clerk_counts) log rs row e))
