-- The days of a run and of the same run with two groups joined, with their books: what the books say is the same but
-- for the two groups, a day more goes into both, and nothing is lost. Assumes nothing.
use mathlib.Core.Path.{◌≡◌, refl, sym, ap, ◌∙◌, subst}
use mathlib.Core.Bool.{true}
use mathlib.Core.List.{List, [], ◌∷◌}
use Prim.Native.Nat.{ℕ, ◌<◌}
use native.Mathlib.Omega.{arith}
use lib.Dec.{eqb}
use lib.ListN.{length}
use Rattle.rules.specs.Codes.{is_rulebook}
use Rattle.rules.specs.Kinds.{most_kinds}
use Rattle.rules.proofs.KindLaws.{kinds_begin, kinds_most}
use Rattle.book.specs.Shape.{day_shape, rulebook_of, shape_of}
use Rattle.places.specs.Places.{ladders}
use Rattle.book.specs.Sound.{sound}
use Rattle.book.specs.Fits.{fits_fault, book_fault}
use Rattle.daylog.specs.declared.header.Header.{Header}
use Rattle.daylog.specs.declared.record.Record.{Record}
use Rattle.daylog.specs.Header.{header_of, log_fault, tables_of}
use Rattle.tables.specs.Tables.{Tables}
use Rattle.verdict.specs.Verdict.{book_after}
use Rattle.years.specs.Days.{carried}
use Rattle.years.specs.Restrictions.{ByRung}
use Rattle.years.specs.Joined.{Two, SameDay, SameDays, none as none_same, more as more_same, YearJoined}
use Rattle.years.proofs.TotalLaws.{kept, blank_rulebook, blank_carries}
use Rattle.years.proofs.RestrictLaws.{third_rung}
use Rattle.years.proofs.JoinLaws.{rulebook_same as rulebook_by, lengths_same as lengths_by, fits_same, nothing_lost}
use Rattle.desk.specs.Offences.{kinds_on}
use Rattle.demands.specs.Counts.{times_of, day_verdict}
use Rattle.demands.specs.Days.{PastDay, ended_day, written, all_written, blank}
use Rattle.demands.specs.Demand2.{History}
use Rattle.demands.specs.Join.{join_log, Joined, between}
use Rattle.demands.specs.Demand3.{Added, DayJoined, DaysJoined, none, more}
use Rattle.demands.proofs.TotalLaws.{Ended, ended_day_lem, ready, good_sound, known_from}
use Rattle.demands.proofs.Demand2.{Holds}
use Rattle.demands.proofs.JoinTables.{joined_log}
use Rattle.demands.proofs.JoinCounts.{times_added, selfs_added, times_none, times_other}
use Rattle.demands.proofs.JoinFound.{offence_stays, verdict_joined}

-- ---- a day's counts
pub times_join : (a b : ℕ) → Two a b → (t t' : Tables) (rs : List Record) → Joined a b t t'
    → Added (kinds_on t) a b (times_of t rs) (times_of t' rs) (between t rs a b)
times_join a b two t t' rs j = record {
  selfs = λ place h. selfs_added a b t t' j two.first_a two.differ rs place;
  frequent = λ place h. times_added a b t t' j two.first_a two.differ rs 2 place (λ e. omega arith);
  over = λ place h. times_added a b t t' j two.first_a two.differ rs 3 place (λ e. omega arith);
  none_left = λ kind place h. times_none a b t t' j two.first_a two.differ rs kind place;
  others = λ group kind place h o. times_other a b t t' j two.first_a two.differ rs group kind place o.not_a
      o.not_b;
}

-- ---- the days as they were written
day_same : (a b : ℕ) → Two a b → {d d' : PastDay} → DayJoined a b d d' → SameDay a b (written d) (written d')
day_same a b two {d} {d'} j = record {
  date = j.date;
  verdict = rw j.records (verdict_joined a b two d.tables d'.tables j.tables d.records);
}

days_same : (a b : ℕ) → Two a b → {days days' : List PastDay} → DaysJoined a b days days'
    → SameDays a b (all_written days) (all_written days')
days_same a b two none = none_same
days_same a b two (more j rest) = more_same (day_same a b two j) (days_same a b two rest)

-- a rulebook's own kinds: rung 3 is the opening restriction
day_rungs : (rulebook : ℕ) → is_rulebook rulebook ≡ true
    → ByRung (day_shape rulebook) rulebook (λ kind rung'. eqb rung' 3)
unfolding day_shape most_kinds
day_rungs rulebook known = third_rung (day_shape rulebook) rulebook known (kinds_begin rulebook) (kinds_most rulebook)

-- ---- the two histories with their books, on a book that carries nothing
pub record Years (a b : ℕ) (h h' : History) (book book' : List ℕ) : Type 0 where
  pub kept : Holds h book
  pub kept' : Holds h' book'
  pub same : h'.from ≡ h.from
  pub nothing : (y l : ℕ) → l < ladders (shape_of h.from).kinds → carried h.from y l ≡ 0
  pub days : DaysJoined a b h.days h'.days

-- both begin with a fresh book
pub years_fresh : (a b rulebook : ℕ) {book book' : List ℕ} → Ended (blank rulebook) [] book
    → Ended (blank rulebook) [] book'
    → Years a b (record { from = blank rulebook; days = [] }) (record { from = blank rulebook; days = [] }) book book'
years_fresh a b rulebook k k' = record {
  kept = k;
  kept' = k';
  same = refl;
  nothing = λ y l less. blank_carries (day_shape rulebook) rulebook y l
      (subst (λ (r : ℕ). l < ladders (day_shape r).kinds) (blank_rulebook (day_shape rulebook) rulebook) less);
  days = none;
}

module _ (a b : ℕ) (two : Two a b) (h h' : History) (book book' : List ℕ) (s : Years a b h h' book book') where
  -- the joined run's book, as one on the book that the run stands on
  joined_kept : Ended h.from h'.days book'
  joined_kept = rw (← s.same) s.kept'

  -- ---- what the two books say alike
  pub rulebook_same : rulebook_of book' ≡ rulebook_of book
  rulebook_same = rulebook_by (kept s.kept) (kept joined_kept) (days_same a b two s.days)

  pub lengths_same : length book' ≡ length book
  lengths_same = lengths_by (kept s.kept) (kept joined_kept) (days_same a b two s.days)

  pub sound_same : sound book' ≡ sound book
  sound_same =
      good_sound h.from h'.days book' joined_kept ∙ sym (good_sound h.from h.days book s.kept)

  -- a book that lets a day in, or refuses it with a number, does so in both
  pub book_same : (rulebook date : ℕ) → book_fault rulebook date book' ≡ book_fault rulebook date book
  book_same rulebook date =
      ap (λ (r : ℕ). fits_fault (day_shape r) rulebook date book') (kept joined_kept).rulebook
      ∙ fits_same (kept s.kept) (kept joined_kept) (days_same a b two s.days) rulebook date
      ∙ ap (λ (r : ℕ). fits_fault (day_shape r) rulebook date book) (sym (kept s.kept).rulebook)

  -- ---- a day more
  abbrev with_day : History → List ℕ → List Record → History
  with_day x log rs = record { from = x.from; days = ended_day log rs ∷ x.days }

  -- a log's book may have the day
  abbrev pub Fitting : List ℕ → List ℕ → Type 0
  Fitting log b = book_fault (header_of log).rulebook (header_of log).date b ≡ 0

  module _ (log : List ℕ) (rs : List Record) (e : log_fault log ≡ 0) (f : Fitting log book) where
    abbrev t : Tables
    t = tables_of log

    abbrev t' : Tables
    t' = tables_of (join_log a b log)

    fault' : log_fault (join_log a b log) ≡ 0
    fault' = (joined_log a b log two.first_a two.last_a two.first_b two.last_b).fault ∙ e

    head : header_of (join_log a b log) ≡ header_of log
    head = (joined_log a b log two.first_a two.last_a two.first_b two.last_b).head

    tables : Joined a b t t'
    tables = (joined_log a b log two.first_a two.last_a two.first_b two.last_b).tables e

    pub allowed : Fitting (join_log a b log) book'
    allowed =
        ap (λ (x : Header). book_fault x.rulebook x.date book') head
        ∙ book_same (header_of log).rulebook (header_of log).date ∙ f

    day_joined : DayJoined a b (ended_day log rs) (ended_day (join_log a b log) rs)
    day_joined = record {
      date = ap (λ (x : Header). x.date) head;
      records = refl;
      tables = tables;
      added = times_join a b two t t' rs tables;
      stays = offence_stays a b two t t' tables rs;
    }

    pub years_day : Years a b (with_day h log rs) (with_day h' (join_log a b log) rs)
        (book_after (day_verdict t rs) (header_of log).date book)
        (book_after (day_verdict t' rs) (header_of (join_log a b log)).date book')
    years_day = record {
      kept = ended_day_lem h.from h.days log book rs s.kept (ready log book e f);
      kept' = ended_day_lem h'.from h'.days (join_log a b log) book' rs s.kept'
          (ready (join_log a b log) book' fault' allowed);
      same = s.same;
      nothing = s.nothing;
      days = more day_joined s.days;
    }

  -- ---- nothing is lost
  pub year_joined_is : YearJoined (shape_of h.from) a b h.from book book' (all_written h.days)
      (all_written h'.days)
  year_joined_is =
      nothing_lost a b two (shape_of h.from) h.from book book' (all_written h.days) (all_written h'.days) _
      (day_rungs (rulebook_of h.from) (known_from h.from h.days book s.kept)) s.nothing s.kept
      joined_kept (days_same a b two s.days)
