-- Demand 3: the theorems to specs/Demand3. Assumes nothing.
use mathlib.Core.Path.{◌≡◌, sym, ap, ◌∙◌, subst}
use mathlib.Core.Bool.{true}
use mathlib.Core.List.{List, [], map}
use Prim.Native.Nat.{ℕ, ◌+◌, ◌≤◌, ◌<◌}
use native.Mathlib.Omega.{arith}
use Rattle.rules.specs.declared.kinds.Kinds.{Kinds}
use Rattle.rules.specs.declared.kinds.Kinds.TheVariants.{One, Three, Four}
use Rattle.rules.specs.Kinds.{kinds_in, first_kind}
use Rattle.rules.proofs.KindLaws.{kinds_begin}
use Rattle.places.specs.Places.{HasCell}
use Rattle.book.specs.Shape.{day_shape}
use Rattle.book.specs.Sound.{sound}
use Rattle.daylog.specs.Header.{tables_of}
use Rattle.years.specs.Written.{none as no_day}
use Rattle.years.specs.Joined.{Two, YearJoined}
use Rattle.years.proofs.TotalLaws.{blank_rulebook}
use Rattle.desk.specs.Offences.{kinds_on}
use Rattle.demands.specs.Counts.{times_of}
use Rattle.demands.specs.Days.{all_written, blank}
use Rattle.demands.specs.Calls.{Step, number_in, Desk, Given, Ran, none as no_step, next, left}
use Rattle.demands.specs.Paper.{Course, idle, Paper, numbers_on}
use Rattle.demands.specs.Lent.{cell_in, CountsHold}
use Rattle.demands.specs.Logs.{ruled_logs}
use Rattle.demands.specs.Demand2.{Seen, begun, SoundRun, History, since, log_days, last_file}
use Rattle.demands.specs.Join.{join_log, between}
use Rattle.demands.specs.Demand3.{Added, Accepted, none, more, Fair, accepted as was_accepted}
use Rattle.demands.specs.Demand3.{full_size as was_full_size, FreshRun, Run, CellsAdded}
use Rattle.demands.specs.Demand3.{NothingLost, NothingLostInLogs}
use Rattle.demands.proofs.CallLaws.{Stands, step, stands_book, begins, runs_read}
use Rattle.demands.proofs.NumberLaws.{number_is}
use Rattle.demands.proofs.TotalLaws.{Ended, blank_sound}
use Rattle.demands.proofs.Demand2.{sound_run, logs_ruled, cells_counted}
use Rattle.demands.proofs.JoinTables.{joined_log}
use Rattle.demands.proofs.JoinFound.{kinds_joined}
use Rattle.demands.proofs.JoinYears.{years_fresh, times_join, year_joined_is}
use Rattle.demands.proofs.JoinRun.{AcceptedBy, Fits, accepted, full_size, Twin, both_idle, both_open, Beside}
use Rattle.demands.proofs.JoinRun.{Runs, runs}
use Rattle.demands.proofs.JoinLogs.{files}

-- ---- acceptance, on the desk and on the paper
accepted_by : {w : Desk} {p : Paper} {cs : List Step} {gs : List Given} → Stands w p → Ran w cs gs → Accepted gs
    → AcceptedBy p cs
unfolding AcceptedBy
accepted_by s no_step none = tt
accepted_by {p = p} s (next {c = c} g r) (more e y) =
    let t = step s g in
    (sym (number_is p p.course c) ∙ ap number_in (sym t.reply) ∙ e, accepted_by t.after r y)

-- ---- the lent cells: they are the times of the day last opened, and those add
-- kinds that begin at 1 are three at least
three_kinds : (k : Kinds) → first_kind k ≡ 1 → 3 ≤ kinds_in k
unfolding first_kind kinds_in
three_kinds One e = absurd (omega arith)
three_kinds Three e = omega arith
three_kinds Four e = omega arith

module _ (kinds : Kinds) (begin : first_kind kinds ≡ 1) (a b : ℕ) (two : Two a b) (n n' m m' : (group kind place : ℕ)
    → ℕ)
    (across : ℕ → ℕ)
    (e : (group kind place : ℕ) → HasCell kinds group kind place → m group kind place ≡ n group kind place)
    (e' : (group kind place : ℕ) → HasCell kinds group kind place → m' group kind place ≡ n' group kind place) where
  cell_of_is : (group kind place : ℕ) → 1 ≤ group → group ≤ 128 → 1 ≤ kind → kind ≤ 3 → place < 32
      → HasCell kinds group kind place
  cell_of_is group kind place p q r t u = record {
    row = record {
      first_group = p;
      last_group = q;
      least_kind = omega arith;
      last_kind = omega (arith, three_kinds kinds begin);
    };
    last_place = u;
  }

  -- a kind that every rulebook has, of a and of b before the join, and of b after it
  at_a : (kind place : ℕ) → 1 ≤ kind → kind ≤ 3 → place < 32 → m a kind place ≡ n a kind place
  at_a kind place low high h = e a kind place (cell_of_is a kind place two.first_a two.last_a low high h)

  at_b : (kind place : ℕ) → 1 ≤ kind → kind ≤ 3 → place < 32 → m b kind place ≡ n b kind place
  at_b kind place low high h = e b kind place (cell_of_is b kind place two.first_b two.last_b low high h)

  after : (kind place : ℕ) → 1 ≤ kind → kind ≤ 3 → place < 32 → m' b kind place ≡ n' b kind place
  after kind place low high h = e' b kind place (cell_of_is b kind place two.first_b two.last_b low high h)

  -- a kind of which the two are added and something more
  adds : (kind place extra : ℕ) → 1 ≤ kind → kind ≤ 3 → place < 32 → n' b kind place
      ≡ n a kind place + n b kind place + extra
      → m' b kind place ≡ m a kind place + m b kind place + extra
  adds kind place extra low high h q =
      omega (arith, q, at_a kind place low high h, at_b kind place low high h, after kind place low high h)

  added_as : Added kinds a b n n' across → Added kinds a b m m' across
  added_as q = record {
    selfs = λ place h. adds 1 place (across place) (omega arith) (omega arith) h (q.selfs place h);
    frequent = λ place h. omega (
      arith,
      adds 2 place 0 (omega arith) (omega arith) h
          (omega (arith, q.frequent place h)),
    );
    over = λ place h. omega (arith, adds 3 place 0 (omega arith) (omega arith) h (omega (arith, q.over place h)));
    none_left = λ kind place h. e' a kind place h ∙ q.none_left kind place h;
    others = λ group kind place h o. e' group kind place h ∙ q.others group kind place h o
        ∙ sym (e group kind place h);
  }

cells_join : {a b : ℕ} {last last' : Course} (lent lent' c c' : List ℕ) → Two a b → Twin a b last last'
    → CountsHold last lent c → CountsHold last' lent' c' → CellsAdded a b last c c'
cells_join lent lent' c c' two both_idle h h' = tt
cells_join {a} {b} lent lent' c c' two (both_open {log} {rs} e) h h' =
    let t = tables_of log in
    let t' = tables_of (join_log a b log) in
    let kinds = kinds_on t in
    let j = (joined_log a b log two.first_a two.last_a two.first_b two.last_b).tables e in
    let after : (group kind place : ℕ) → HasCell kinds group kind place → cell_in kinds c' group kind place
    ≡ times_of t' rs group kind place =
    subst (λ (k : Kinds). (group kind place : ℕ) → HasCell k group kind place → cell_in k c' group kind place
    ≡ times_of t' rs group kind place)
    (kinds_joined j) h'.times in
    added_as kinds (kinds_begin t.text.rulebook) a b two (times_of t rs) (times_of t' rs) (cell_in kinds c)
    (cell_in kinds c')
    (between t rs a b) h.times after (times_join a b two t t' rs j)

-- ---- lists of steps
sound_fresh : {rulebook : ℕ} {w : Desk} {cs : List Step} {gs : List Given} → FreshRun rulebook w cs gs
    → SoundRun w cs gs
sound_fresh {rulebook} r =
    record { closed = r.closed; good = ap sound r.fresh ∙ blank_sound rulebook r.known; ran = r.ran }

module _ (a b rulebook : ℕ) (w w' : Desk) (cs cs' : List Step) (gs gs' : List Given)
    (r : Run a b rulebook w w' cs cs' gs gs') where
  abbrev start : Desk → History
  start v = record { from = v.book; days = [] }

  beside : Beside a b (begun w) (begun w') (start w) (start w')
  beside = record {
    course = both_idle;
    years = rw (r.run.fresh, r.joined.fresh) (years_fresh a b rulebook (no_day good) (no_day good));
  }
    where
      good : sound (blank rulebook) ≡ true
      good = blank_sound rulebook r.run.known

  fits : Fair w w' cs gs → Fits (begun w) (begun w') cs
  fits (was_accepted y n) = accepted (accepted_by (begins w r.run.closed) r.run.ran y) n
  fits (was_full_size h l n) = full_size h l n

  side : Runs a b r.two (begun w) (begun w') (start w) (start w') idle idle cs cs'
  side = runs a b r.two (begun w) (begun w') (start w) (start w') idle idle cs cs' beside both_idle r.steps
      (fits r.fair) r.out r.lent

abbrev number : Seen → ℕ
number x = number_in x.reply

pub nothing_lost : NothingLost
unfolding numbers_on
nothing_lost a b rulebook w w' cs cs' gs gs' r =
    let q = side a b rulebook w w' cs cs' gs gs' r in
    let s = (sound_run (sound_fresh r.run)).stands in
    let s' = (sound_run (sound_fresh r.joined)).stands in record {
      same_numbers = runs_read number (begins w' r.joined.closed) r.joined.ran ∙ q.numbers
          ∙ sym (runs_read number (begins w r.run.closed) r.run.ran);
      cells_add = cells_join w.counts w'.counts (left w gs).counts (left w' gs').counts r.two q.opened
          (cells_counted w cs gs r.run.closed r.run.ran)
          (cells_counted w' cs' gs' r.joined.closed r.joined.ran);
      same_book = q.after.years.same;
      each = q.after.years.days;
      year = rw (stands_book s, stands_book s') (year_joined_is a b r.two (since w cs) (since w' cs') _ _
          q.after.years);
    }

-- ---- day logs
pub nothing_lost_in_logs : NothingLostInLogs
nothing_lost_in_logs a b rulebook logs js js' two known r r' =
    let from = blank rulebook in
    let logs' = map (join_log a b) logs in
    let k : Ended from [] from = no_day (blank_sound rulebook known) in
    let q = files a b two from from [] [] from from logs (years_fresh a b rulebook k k) in
    rw (logs_ruled from logs js r, logs_ruled from logs' js' r')
    (record {
      same_numbers = q.numbers;
      each = q.years.days;
      year = subst (λ (x : ℕ). YearJoined (day_shape x) a b from (last_file from (ruled_logs from logs))
          (last_file from (ruled_logs from logs')) (all_written (log_days from [] logs))
          (all_written (log_days from [] logs')))
          (blank_rulebook (day_shape rulebook) rulebook) (year_joined_is a b two _ _ _ _ q.years);
    })
