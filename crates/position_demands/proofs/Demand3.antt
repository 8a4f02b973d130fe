-- Demand 3 for `positions`: the theorems to specs/Demand3. Assumes nothing.
use mathlib.Core.Path.{◌≡◌, refl, sym, ap, ap₂, ◌∙◌, subst}
use mathlib.Core.Bool.{Bool, true, false}
use mathlib.Core.List.{List, [], ◌∷◌, map}
use Prim.Native.Nat.{ℕ, ◌≤◌}
use native.Mathlib.Omega.{arith}
use lib.Dec.{eqb}
use lib.ListN.{length, length-replicate}
use Rattle.wire.specs.Choice.{pick}
use Rattle.rules.specs.Codes.{is_rulebook}
use Rattle.book.specs.Shape.{rulebook_of}
use Rattle.years.specs.Days.{blank_as}
use Rattle.years.specs.Written.{none as begun}
use Rattle.years.specs.Joined.{Two, YearJoined}
use Rattle.years.proofs.TotalLaws.{kept, blank_sound, blank_carries}
use Rattle.years.proofs.RestrictLaws.{limit_rungs}
use Rattle.years.proofs.JoinLaws.{nothing_lost as none_lost}
use Rattle.book.proofs.BookLaws.{sound_facts}
use Rattle.positions.specs.Books.{position_shape}
use Rattle.positions.specs.Log.{positions_of}
use Rattle.positions.specs.Judge.{judge_fault}
use Rattle.position_demands.specs.Calls.{judge_log, number_in, Lent, Given, Gives}
use Rattle.position_demands.specs.Demand1.{named_number}
use Rattle.position_demands.specs.Demand2.{History, days_of, full_room, Judged, clerk_lent, JudgesAll}
use Rattle.position_demands.specs.Demand2.{none as no_log, next as a_log, last_file, accepted, log_day, recorded}
use Rattle.position_demands.specs.Join.{join_log}
use Rattle.position_demands.specs.Demand3.{EachDayJoined, judges, NothingLost, NothingLostInLogs}
use Rattle.position_demands.proofs.Demand1.{number_named}
use Rattle.position_demands.proofs.JoinDays.{added, stays}
use Rattle.position_demands.proofs.JoinLogs.{fault_same, positions_joined}
use Rattle.position_demands.proofs.JoinRun.{Beside, days_same, joined_holds, named_same, not_short, beside_step}
use Rattle.position_demands.proofs.JoinRun.{runs}

pub each_day_joined : EachDayJoined
each_day_joined a b two log =
    let j = positions_joined a b two log in record {
      again = fault_same a b two log;
      positions = λ e. j;
      added = λ e. added a b two (positions_of log) (positions_of (join_log a b log)) j;
      stays = λ e. stays a b two (positions_of log) (positions_of (join_log a b log)) j;
    }

-- ---- both begin with a fresh book
fresh_beside : (a b rulebook : ℕ) → is_rulebook rulebook ≡ true →
    let from = blank_as position_shape rulebook in
    Beside a b (record { from = from; logs = [] }) (record { from = from; logs = [] }) from from
unfolding position_shape
fresh_beside a b rulebook known = record {
  holds = begun (blank_sound position_shape rulebook known);
  holds' = begun (blank_sound position_shape rulebook known);
  same = refl;
  nothing = λ y l less. blank_carries position_shape rulebook y l less;
  each = refl;
}

-- ---- and nothing is lost
module _ (a b : ℕ) (two : Two a b) {h h' : History} {book book' : List ℕ} (s : Beside a b h h' book book') where
  year_joined_is : YearJoined position_shape a b h.from book book' (days_of h) (map log_day (map (join_log a b) h.logs))
  unfolding position_shape
  year_joined_is =
      none_lost a b two position_shape h.from book book' (days_of h) (map log_day (map (join_log a b) h.logs)) _
      (limit_rungs position_shape (rulebook_of h.from) known refl) s.nothing s.holds
      (joined_holds a b two s) (days_same a b two h.logs)
    where
      known : is_rulebook (rulebook_of h.from) ≡ true
      known =
          ap (λ (r : ℕ). is_rulebook r) (sym (kept s.holds).rulebook)
          ∙ (sound_facts position_shape book (kept s.holds).good).known

  pub year_of : YearJoined position_shape a b h.from book book' (days_of h) (days_of h')
  year_of =
      subst (λ (xs : List (List ℕ)). YearJoined position_shape a b h.from book book' (days_of h) (map log_day xs))
      (sym s.each) year_joined_is

-- no day yet on a book
abbrev begin : List ℕ → History
begin book = record { from = book; logs = [] }

pub nothing_lost : NothingLost
nothing_lost a b rulebook w w' cs cs' gs gs' r =
    let s : Beside a b (begin w.book) (begin w'.book) w.book w'.book =
    rw (r.fresh, r.fresh') (fresh_beside a b rulebook r.known) in
    let q = runs a b r.two (begin w.book) (begin w'.book) s r.ran r.ran' r.steps r.fair r.out
    r.lent in
    record {
      same_numbers = q.numbered;
      same_book = q.after.same;
      each = q.after.each;
      year = year_of a b r.two q.after;
    }

-- ---- position logs
-- what a log adds to the history, by the number that it got
unfoldable with_log : History → List ℕ → ℕ → History
with_log h log n = record { from = h.from; logs = pick (eqb n 0) (log ∷ h.logs) h.logs }

pick_log : (t : Bool) (h : History) (log : List ℕ)
    → ◌≡◌ {A = History} (pick t (record { from = h.from; logs = log ∷ h.logs }) h)
    (record { from = h.from; logs = pick t (log ∷ h.logs) h.logs })
unfolding pick
pick_log true h log = refl
pick_log false h log = refl

recorded_is : (w : Lent) (h : History) (log : List ℕ) (g : Given) → Gives w (judge_log log) g
    → recorded w (judge_log log) h ≡ with_log h log (number_in g.reply)
unfolding recorded with_log named_number
recorded_is w h log g m =
    pick_log (eqb (judge_fault log w.book (length w.out)) 0) h log
    ∙ ap (λ (n : ℕ). record { from = h.from; logs = pick (eqb n 0) (log ∷ h.logs) h.logs })
    (sym (number_named w (judge_log log) g m))

-- a list of logs, and the same joined, from files that stand side by side
record Read (a b : ℕ) (h h' : History) (book book' : List ℕ) (logs : List (List ℕ)) (js js' : List Judged) : Type 0
  where
    numbered : map (λ (j : Judged). j.number) js' ≡ map (λ (j : Judged). j.number) js
    after : Beside a b (record { from = h.from; logs = accepted h.logs logs js })
        (record { from = h'.from; logs = accepted h'.logs (map (join_log a b) logs) js' })
        (last_file book js) (last_file book' js')

full : (book : List ℕ) → full_room ≤ length (clerk_lent book).out
full book = omega (arith, length-replicate {A = ℕ} full_room 0)

reads : (a b : ℕ) → Two a b → (h h' : History) (book book' : List ℕ) (logs : List (List ℕ)) (js js' : List Judged)
    → Beside a b h h' book book' → JudgesAll book logs js → JudgesAll book' (map (join_log a b) logs) js'
    → Read a b h h' book book' logs js js'
unfolding accepted last_file with_log
reads a b two h h' book book' [] [] [] s no_log no_log = record { numbered = refl; after = s }
reads a b two h h' book book' [] [] (_ ∷ _) s _ r' = elim r' [ ]
reads a b two h h' book book' [] (_ ∷ _) _ s r _ = elim r [ ]
reads a b two h h' book book' (log ∷ logs) _ _ s (a_log {g = g} {js = js} m r) (a_log {g = g'} {js = js'} m' r') =
    let w = clerk_lent book in
    let w' = clerk_lent book' in
    let n : named_number w' (judge_log (join_log a b log)) ≡ named_number w (judge_log log) =
    named_same a b two s w w' refl refl judges (λ x e. not_short a b two x (length w.out) (full book))
    (full book') in
    let t : Beside a b (with_log h log (number_in g.reply)) (with_log h' (join_log a b log) (number_in g'.reply))
    g.after.book g'.after.book =
    rw (← recorded_is w h log g m, ← recorded_is w' h' (join_log a b log) g' m')
    (beside_step a b two s m m' judges n) in
    let q = reads a b two (with_log h log (number_in g.reply)) (with_log h' (join_log a b log) (number_in g'.reply))
    g.after.book g'.after.book logs js js' t r r' in
    record {
      numbered = ap₂ {C = List ℕ} (λ x xs. x ∷ xs)
          (number_named w' (judge_log (join_log a b log)) g' m' ∙ n ∙ sym (number_named w (judge_log log) g m))
          q.numbered;
      after = q.after;
    }

pub nothing_lost_in_logs : NothingLostInLogs
nothing_lost_in_logs a b rulebook logs js js' two known r r' =
    let from = blank_as position_shape rulebook in
    let q = reads a b two (begin from) (begin from) from from logs js js' (fresh_beside a b rulebook known) r r' in
    record {
      same_numbers = q.numbered;
      each = q.after.each;
      year = year_of a b two q.after;
    }
