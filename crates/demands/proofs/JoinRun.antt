-- A run and the same run with two groups joined go on side by side: each step gets the same number in both, and
-- leaves the days, the books and the day last opened alike but for the two groups. Assumes nothing.
use mathlib.Core.Path.{◌≡◌, refl, sym, ap, ap₂, ◌∙◌, subst}
use mathlib.Core.Bool.{Bool, true, false, not}
use mathlib.Core.List.{List, [], ◌∷◌}
use Prim.Native.Nat.{ℕ, ◌≤◌}
use native.Mathlib.Omega.{arith}
use borrow.Author.Tests.{eqb-true, eqb-false, eq-eqb, le-ltb}
use lib.Dec.{leb, eqb, lit<}
use lib.ListN.{length}
use Rattle.wire.specs.Choice.{pick, or_else}
use Rattle.wire.proofs.ChoiceLaws.{pick_yes, pick_no, pick_zero, or_none, and_left, and_right}
use Rattle.rules.proofs.KindLaws.{kinds_most}
use Rattle.book.specs.Shape.{day_shape, rulebook_of}
use Rattle.places.specs.Places.{cells}
use Rattle.book.specs.Ask.{in_range, ask_fault_as}
use Rattle.book.specs.Sound.{sound}
use Rattle.book.specs.Fits.{book_fault}
use Rattle.daylog.specs.declared.header.Header.{Header}
use Rattle.daylog.specs.declared.record.Record.{Record}
use Rattle.daylog.specs.Header.{header_of, log_fault, tables_of}
use Rattle.daylog.specs.Brokers.{brokers_wrong}
use Rattle.daylog.specs.Records.{record_length, record_of}
use Rattle.counts.specs.Weigh.{record_fault}
use Rattle.verdict.specs.Settle.{short_fault}
use Rattle.desk.specs.Books.{fresh_fault, ask_fault}
use Rattle.years.specs.Joined.{Two}
use Rattle.desk.specs.Open.{kinds_for, few_fault, handed_fault}
use Rattle.desk.specs.End.{row_fault}
use Rattle.desk.proofs.HandedLaws.{room_there}
use Rattle.demands.specs.Counts.{times_on, day_verdict}
use Rattle.demands.specs.Days.{blank}
use Rattle.demands.specs.Calls.{Step, make_book, open_day, end_day, full_room}
use Rattle.demands.specs.Paper.{Course, idle, during, Paper, day_in, take_number, end_refusal, fresh_book, rule}
use Rattle.demands.specs.Paper.{rules, numbers_on, paper_after}
use Rattle.demands.specs.Logs.{clerk_counts}
use Rattle.demands.specs.Lent.{latest, last_opened}
use Rattle.demands.specs.Demand2.{History, recorded, history}
use Rattle.demands.specs.Join.{join_log}
use Rattle.demands.specs.Demand3.{StepJoined, makes, opens, takes, ends, abandons, asks, lends}
use Rattle.demands.specs.Demand3.{StepsJoined, none, more, roomy, all_roomy}
use Rattle.demands.proofs.CallLaws.{paper, handed_parts}
use Rattle.demands.proofs.ListedLaws.{found_fits}
use Rattle.demands.proofs.NumberLaws.{refusal, number_is}
use Rattle.demands.proofs.PaperLaws.{refused_leaves, after_open, after_take, after_end, recorded_end}
use Rattle.demands.proofs.PaperLaws.{same_room, full_out}
use Rattle.demands.proofs.Demand2.{Holds, holds_fresh}
use Rattle.demands.proofs.JoinTables.{joined_log}
use Rattle.demands.proofs.JoinCounts.{fault_joined}
use Rattle.demands.proofs.JoinYears.{Years, years_fresh, rulebook_same, lengths_same, sound_same, book_same}
use Rattle.demands.proofs.JoinYears.{years_day}

-- a fresh book begins a new history
made_history : (rulebook len : ℕ) (h : History) → fresh_fault len rulebook ≡ 0
    → ◌≡◌ {A = History} (record { from = blank rulebook; days = [] })
    (pick (eqb (fresh_fault len rulebook) 0) (record { from = blank rulebook; days = [] }) h)
made_history rulebook len h e = pick_yes _ _ _ _ (eq-eqb _ 0 e) refl

-- every step of a list is accepted
unfoldable pub AcceptedBy : Paper → List Step → Type 0
AcceptedBy p [] = Unit {0}
AcceptedBy p (c ∷ cs) = (refusal p p.course c ≡ 0) × AcceptedBy (rule p p.course c).after cs

-- the two ways in which a run is fair, on the papers
pub data Fits (p p' : Paper) (cs : List Step) : Type 0 where
  accepted : AcceptedBy p cs → clerk_counts ≤ p'.len → Fits p p' cs
  full_size : full_room ≤ length p.out → all_roomy cs ≡ true → p'.len ≡ p.len → Fits p p' cs

-- and of one step
data Fit (p p' : Paper) (c : Step) : Type 0 where
  accepted : refusal p p.course c ≡ 0 → clerk_counts ≤ p'.len → Fit p p' c
  full_size : full_room ≤ length p.out → p'.len ≡ p.len → Fit p p' c

fit_first : {p p' : Paper} {c : Step} {cs : List Step} → Fits p p' (c ∷ cs) → Fit p p' c
unfolding AcceptedBy
fit_first (accepted y n) = accepted y.0 n
fit_first (full_size h r n) = full_size h n

fit_rest : {p p' : Paper} {c : Step} {cs : List Step} (c' : Step) → Fits p p' (c ∷ cs)
    → Fits (rule p p.course c).after (rule p' p'.course c').after cs
unfolding AcceptedBy all_roomy
fit_rest {p} {p'} {c} c' (accepted y n) = accepted y.1 (omega (arith, same_room p' p'.course c'))
fit_rest {p} {p'} {c} {cs} c' (full_size h r n) =
    full_size (full_out p p.course c h (and_left (roomy c) (all_roomy cs) r)) (and_right (roomy c) (all_roomy cs) r)
    (same_room p' p'.course c' ∙ n ∙ sym (same_room p p.course c))

-- ---- side by side
pub data Twin (a b : ℕ) : Course → Course → Type 0 where
  both_idle : Twin a b idle idle
  both_open : {log : List ℕ} {rs : List Record} → log_fault log ≡ 0
      → Twin a b (during log rs) (during (join_log a b log) rs)

twin_latest : {a b : ℕ} {c c' l l' : Course} → Twin a b c c' → Twin a b l l' → Twin a b (latest c l) (latest c' l')
twin_latest both_idle t = t
twin_latest (both_open e) t = both_open e

pub record Beside (a b : ℕ) (p p' : Paper) (h h' : History) : Type 0 where
  pub course : Twin a b p.course p'.course
  pub years : Years a b h h' p.book p'.book

move : {a b : ℕ} {p q p' q' : Paper} {h i h' i' : History} → p ≡ q → p' ≡ q' → h ≡ i → h' ≡ i' → Beside a b p p' h h'
    → Beside a b q q' i i'
move {a} {b} {p} {q} {p'} {q'} {h} {i} {h'} {i'} e e' f f' s =
    subst (λ (x : Paper). Beside a b x q' i i') e
    (subst (λ (x : Paper). Beside a b p x i i') e' (subst (λ (x : History). Beside a b p p' x i') f
    (subst (λ (x : History). Beside a b p p' h x) f' s)))

module _ (a b : ℕ) (two : Two a b) where
  -- ---- the numbers
  -- opening: the tables' fault is the same, so is the book's, and there is room in both or in neither
  pub open_same : (log book book' : List ℕ) (len len' : ℕ)
      → ((rulebook date : ℕ) → book_fault rulebook date book' ≡ book_fault rulebook date book)
      → few_fault (kinds_for (header_of log)) len' ≡ few_fault (kinds_for (header_of log)) len
      → handed_fault (join_log a b log) book' len' ≡ handed_fault log book len
  unfolding handed_fault
  open_same log book book' len len' same n =
      let j = joined_log a b log two.first_a two.last_a two.first_b two.last_b in
      ap₂ or_else j.fault
      (ap₂ or_else (ap (λ (x : Header). book_fault x.rulebook x.date book') j.head
      ∙ same (header_of log).rulebook (header_of log).date)
      (ap (λ (x : Header). few_fault (kinds_for x) len') j.head ∙ n))

  -- counts for the most kinds are enough
  not_few : (h : Header) (len : ℕ) → cells (kinds_for h) ≤ len → few_fault (kinds_for h) len ≡ 0
  unfolding few_fault
  not_few h len n = sym (pick_no _ _ _ _ (le-ltb len (cells (kinds_for h)) n) refl)

  few_same : {p p' : Paper} {log : List ℕ} → Fit p p' (open_day log) → p.course ≡ idle
      → few_fault (kinds_for (header_of log)) p'.len ≡ few_fault (kinds_for (header_of log)) p.len
  unfolding refusal
  few_same {p} {p'} {log} (accepted e n) i =
      let h = header_of log in
      let z : handed_fault log p.book p.len ≡ 0 = subst (λ (x : Course). refusal p x (open_day log) ≡ 0) i e in
      not_few h p'.len (omega (arith, n, kinds_most h.rulebook))
      ∙ sym (not_few h p.len (room_there log p.book p.len z))
  few_same {log = log} (full_size h n) i = ap (few_fault (kinds_for (header_of log))) n

  -- taking: by the tables alone
  pub take_same : (log : List ℕ) (rs : List Record) (row : List ℕ) → log_fault log ≡ 0
      → take_number (join_log a b log) rs row ≡ take_number log rs row
  unfolding take_number record_fault
  take_same log rs row e =
      let j = joined_log a b log two.first_a two.last_a two.first_b two.last_b in
      ap₂ (λ (x : Header) (n : ℕ).
      pick (not (eqb (length row) (record_length x.version))) 1
      (or_else (pick (brokers_wrong x.version row) 11 n) (pick (leb 1000000 (length rs)) 14 0)))
      j.head
      (fault_joined a b (tables_of log) (tables_of (join_log a b log)) (j.tables e) two.first_a two.differ
      (record_of row))

  -- ending: the record's fault and the book's are the same, and both have room for the findings
  abbrev short : (log : List ℕ) (rs : List Record) → ℕ → ℕ
  short log rs room = short_fault (day_verdict (tables_of log) rs) room

  not_short : (log : List ℕ) (rs : List Record) (room : ℕ) → full_room ≤ room → short log rs room ≡ 0
  unfolding short_fault
  not_short log rs room h =
      sym (pick_no _ _ _ _ (le-ltb room _ (found_fits (tables_of log) (times_on (tables_of log) rs) room h)) refl)

  end_same : (log : List ℕ) (rs : List Record) (row book book' : List ℕ) (room room' : ℕ)
      → ((rulebook date : ℕ) → book_fault rulebook date book' ≡ book_fault rulebook date book)
      → short log rs room ≡ 0 → full_room ≤ room' → end_refusal (join_log a b log) rs row book' room'
      ≡ end_refusal log rs row book room
  unfolding end_refusal row_fault
  end_same log rs row book book' room room' same fits full =
      let j = joined_log a b log two.first_a two.last_a two.first_b two.last_b in
      ap₂ (λ (x : Header) (n : ℕ).
      pick (not (eqb (length row) (record_length x.version))) 1 (or_else (row_fault (day_in log rs) row) n)) j.head
      (ap₂ or_else (ap (λ (x : Header). book_fault x.rulebook x.date book') j.head
      ∙ same (header_of log).rulebook (header_of log).date)
      (not_short (join_log a b log) rs room' full ∙ sym fits))

  end_fits : (log : List ℕ) (rs : List Record) (row book : List ℕ) (room : ℕ) → end_refusal log rs row book room ≡ 0
      → short log rs room ≡ 0
  unfolding end_refusal
  end_fits log rs row book room e =
      let q = or_none (row_fault (day_in log rs) row) _ (pick_zero _ 1 _ (lit< tt) e).1 in
      (or_none (book_fault (header_of log).rulebook (header_of log).date book) _ q.1).1

  end_room : {p p' : Paper} (log : List ℕ) (rs : List Record) (row : List ℕ) → Fit p p' (end_day row)
      → p.course ≡ during log rs → short log rs (length p.out) ≡ 0
  unfolding refusal
  end_room {p} log rs row (accepted e n) i = end_fits log rs row p.book (length p.out)
      (subst (λ (x : Course). refusal p x (end_day row) ≡ 0) i e)
  end_room {p} log rs row (full_size h n) i = not_short log rs (length p.out) h

  end_allows : (log : List ℕ) (rs : List Record) (row book : List ℕ) (room : ℕ) → end_refusal log rs row book room ≡ 0
      → book_fault (header_of log).rulebook (header_of log).date book ≡ 0
  unfolding end_refusal
  end_allows log rs row book room e =
      let q = or_none (row_fault (day_in log rs) row) _ (pick_zero _ 1 _ (lit< tt) e).1 in
      (or_none (book_fault (header_of log).rulebook (header_of log).date book) _ q.1).0

  ask_same : (book book' : List ℕ) (group kind family : ℕ) → sound book' ≡ sound book → rulebook_of book'
      ≡ rulebook_of book
      → ask_fault book' group kind family ≡ ask_fault book group kind family
  unfolding ask_fault_as
  ask_same book book' group kind family e q =
      ap₂ (λ (t : Bool) (r : ℕ). pick (not t) 17 (pick (not (in_range (day_shape r).kinds group kind family)) 21 0)) e q

  module _ (book out book' out' : List ℕ) (len len' : ℕ) (h h' : History) (s : Years a b h h' book book') where
    same_number : (course course' : Course) (c c' : Step) → Twin a b course course' → StepJoined a b c c'
        → Fit (paper course book out len) (paper course' book' out' len') c → full_room ≤ length out'
        → refusal (paper course' book' out' len') course' c' ≡ refusal (paper course book out len) course c
    unfolding refusal
    same_number course course' _ _ t (makes {rulebook}) f l = ap (λ (n : ℕ). fresh_fault n rulebook)
        (lengths_same a b two h h' book book' s)
    same_number course course' _ _ t (asks {group} {kind} {family}) f l =
        ask_same book book' group kind family (sound_same a b two h h' book book' s)
        (rulebook_same a b two h h' book book' s)
    same_number course course' _ _ t lends f l = refl
    same_number _ _ _ _ both_idle (opens {log}) f l =
        open_same log book book' len len' (book_same a b two h h' book book' s) (few_same f refl)
    same_number _ _ _ _ both_idle takes f l = refl
    same_number _ _ _ _ both_idle ends f l = refl
    same_number _ _ _ _ both_idle abandons f l = refl
    same_number _ _ _ _ (both_open e) opens f l = refl
    same_number _ _ _ _ (both_open {log} {rs} e) (takes {row}) f l = take_same log rs row e
    same_number _ _ _ _ (both_open {log} {rs} e) (ends {row}) f l =
        end_same log rs row book book' (length out) (length out') (book_same a b two h h' book book' s)
        (end_room log rs row f refl) l
    same_number _ _ _ _ (both_open e) abandons f l = refl

    -- ---- an accepted step leaves them side by side
    abbrev p : Course → Paper
    p course = paper course book out len

    abbrev p' : Course → Paper
    p' course = paper course book' out' len'

    -- a fresh book
    fresh_beside : (course course' : Course) (rulebook : ℕ) → Twin a b course course'
        → fresh_fault (length book) rulebook ≡ 0 → fresh_fault (length book') rulebook ≡ 0
        → Beside a b (rule (p course) course (make_book rulebook)).after
        (rule (p' course') course' (make_book rulebook)).after
        (recorded (p course) course (make_book rulebook) h) (recorded (p' course') course' (make_book rulebook) h')
    unfolding rule recorded
    fresh_beside course course' rulebook t e z =
        let q = made_history rulebook (length book) h e in
        let q' = made_history rulebook (length book') h' z in
        move refl refl q q' (record {
          course = t;
          years = years_fresh a b rulebook
              (subst (λ (x : History). Holds x (fresh_book book rulebook)) (sym q)
              (holds_fresh h book rulebook s.kept))
              (subst (λ (x : History). Holds x (fresh_book book' rulebook)) (sym q')
              (holds_fresh h' book' rulebook s.kept'));
        })

    -- a day ended
    end_beside : (log : List ℕ) (rs : List Record) (row : List ℕ) → log_fault log ≡ 0
        → end_refusal log rs row book (length out) ≡ 0
        → end_refusal (join_log a b log) rs row book' (length out') ≡ 0
        → Beside a b (rule (p (during log rs)) (during log rs) (end_day row)).after
        (rule (p' (during (join_log a b log) rs)) (during (join_log a b log) rs) (end_day row)).after
        (recorded (p (during log rs)) (during log rs) (end_day row) h)
        (recorded (p' (during (join_log a b log) rs)) (during (join_log a b log) rs) (end_day row) h')
    end_beside log rs row g e z =
        move (after_end (p (during log rs)) log rs row e)
        (after_end (p' (during (join_log a b log) rs)) (join_log a b log) rs row z)
        (sym (recorded_end (p (during log rs)) log rs row h e))
        (sym (recorded_end (p' (during (join_log a b log) rs)) (join_log a b log) rs row h' z))
        (record {
          course = both_idle;
          years = years_day a b two h h' book book' s log rs g
              (end_allows log rs row book (length out) e);
        })

    accepted_beside : (course course' : Course) (c c' : Step) → Twin a b course course' → StepJoined a b c c'
        → refusal (p course) course c ≡ 0 → refusal (p' course') course' c' ≡ 0
        → Beside a b (rule (p course) course c).after (rule (p' course') course' c').after
        (recorded (p course) course c h) (recorded (p' course') course' c' h')
    unfolding refusal rule recorded
    accepted_beside course course' _ _ t (makes {rulebook}) e z = fresh_beside course course' rulebook t e z
    accepted_beside course course' _ _ t asks e z = record { course = t; years = s }
    accepted_beside course course' _ _ t lends e z = record { course = t; years = s }
    accepted_beside _ _ _ _ both_idle (opens {log}) e z =
        move (after_open (p idle) log e) (after_open (p' idle) (join_log a b log) z) refl refl
        (record { course = both_open (handed_parts log book len e).0; years = s })
    accepted_beside _ _ _ _ both_idle takes e z = absurd (omega arith)
    accepted_beside _ _ _ _ both_idle ends e z = absurd (omega arith)
    accepted_beside _ _ _ _ both_idle abandons e z = absurd (omega arith)
    accepted_beside _ _ _ _ (both_open g) opens e z = absurd (omega arith)
    accepted_beside _ _ _ _ (both_open {log} {rs} g) (takes {row}) e z =
        move (after_take (p (during log rs)) log rs row e)
        (after_take (p' (during (join_log a b log) rs)) (join_log a b log) rs row z) refl refl
        (record { course = both_open g; years = s })
    accepted_beside _ _ _ _ (both_open {log} {rs} g) (ends {row}) e z = end_beside log rs row g e z
    accepted_beside _ _ _ _ (both_open g) abandons e z = record { course = both_idle; years = s }

  -- ---- any step: the same number, and side by side after it
  record Again (p p' : Paper) (h h' : History) (c c' : Step) : Type 0 where
    number : refusal p' p'.course c' ≡ refusal p p.course c
    after : Beside a b (rule p p.course c).after (rule p' p'.course c').after (recorded p p.course c h)
        (recorded p' p'.course c' h')

  again : (p p' : Paper) (h h' : History) (c c' : Step) → Beside a b p p' h h' → StepJoined a b c c' → Fit p p' c
      → full_room ≤ length p'.out
      → Again p p' h h' c c'
  again p p' h h' c c' s j f l = record { number = n; after = go (eqb (refusal p p.course c) 0) refl }
    where
      n : refusal p' p'.course c' ≡ refusal p p.course c
      n = same_number p.book p.out p'.book p'.out p.len p'.len h h' s.years p.course
          p'.course c c' s.course j f l

      go : (t : Bool) → eqb (refusal p p.course c) 0 ≡ t
          → Beside a b (rule p p.course c).after (rule p' p'.course c').after (recorded p p.course c h)
          (recorded p' p'.course c' h')
      go true e =
          let z = eqb-true _ 0 e in
          accepted_beside p.book p.out p'.book p'.out p.len p'.len h h' s.years p.course
          p'.course c c' s.course j z (n ∙ z)
      go false e =
          let z = eqb-false _ 0 e in
          let q = refused_leaves p h p.course c z in
          let q' = refused_leaves p' h' p'.course c' (λ x. z (sym n ∙ x)) in
          move (sym q.paper) (sym q'.paper) (sym q.days) (sym q'.days) s

  -- ---- any list of steps
  pub record Runs (p p' : Paper) (h h' : History) (last last' : Course) (cs cs' : List Step) : Type 0 where
    pub numbers : numbers_on p' cs' ≡ numbers_on p cs
    pub after : Beside a b (paper_after p cs) (paper_after p' cs') (history p h cs) (history p' h' cs')
    pub opened : Twin a b (last_opened p last cs) (last_opened p' last' cs')

  pub runs : (p p' : Paper) (h h' : History) (last last' : Course) (cs cs' : List Step) → Beside a b p p' h h'
      → Twin a b last last' → StepsJoined a b cs cs'
      → Fits p p' cs → full_room ≤ length p'.out → all_roomy cs' ≡ true → Runs p p' h h' last last' cs cs'
  unfolding numbers_on rules paper_after history last_opened all_roomy
  runs p p' h h' last last' [] _ s t none f l m = record { numbers = refl; after = s; opened = t }
  runs p p' h h' last last' (c ∷ cs) [] s t j f l m = elim j [ ]
  runs p p' h h' last last' (c ∷ cs) (c' ∷ cs') s t (more j js) f l m =
      let g = again p p' h h' c c' s j (fit_first f) l in
      let q = (rule p p.course c).after in
      let q' = (rule p' p'.course c').after in
      let r = runs q q' (recorded p p.course c h) (recorded p' p'.course c' h') (latest q.course last)
      (latest q'.course last') cs cs' g.after (twin_latest g.after.course t) js (fit_rest c' f)
      (full_out p' p'.course c' l (and_left (roomy c') (all_roomy cs') m))
      (and_right (roomy c') (all_roomy cs') m) in
      record {
        numbers = ap₂ {C = List ℕ} (λ x xs. x ∷ xs) (number_is p' p'.course c' ∙ g.number
            ∙ sym (number_is p p.course c)) r.numbers;
        after = r.after;
        opened = r.opened;
      }
