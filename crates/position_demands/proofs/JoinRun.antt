-- A run and the same run with two groups joined, side by side: the same numbers, each accepted log joined, and both
-- books those of their days. Assumes nothing.
use mathlib.Core.Path.{◌≡◌, refl, sym, ap, ap₂, ◌∙◌, subst}
use mathlib.Core.Bool.{Bool, true, false, not}
use mathlib.Core.List.{List, [], ◌∷◌, map}
use Prim.Native.Nat.{ℕ, ◌*◌, ◌≤◌, ◌<◌}
use native.Mathlib.Omega.{arith}
use borrow.Author.Tests.{eqb-true, leb-true, le-ltb, ltb-false}
use lib.Dec.{eqb, lit<}
use lib.ListN.{length}
use Rattle.wire.specs.Choice.{pick, or_else}
use Rattle.wire.specs.Buffers.{put}
use Rattle.wire.proofs.ChoiceLaws.{pick_yes, pick_no, pick_zero, or_none, and_left, and_right}
use Rattle.wire.proofs.BufferLaws.{length_put}
use Rattle.rules.specs.declared.kinds.Kinds.TheVariants.{One}
use Rattle.places.specs.Places.{ladders}
use Rattle.book.specs.Ask.{in_range, ask_fault_as}
use Rattle.book.specs.Fits.{fits_fault}
use Rattle.daylog.specs.declared.header.Header.{Header}
use Rattle.daylog.specs.Header.{header_of}
use Rattle.verdict.specs.Verdict.{found_count, findings}
use Rattle.verdict.specs.Settle.{short_fault}
use Rattle.verdict.proofs.SettleLaws.{found_most}
use Rattle.years.specs.Days.{carried, blank_as}
use Rattle.years.specs.Written.{Written}
use Rattle.years.specs.Joined.{Two, SameDay, SameDays, none as no_day, more as a_day}
use Rattle.years.proofs.TotalLaws.{kept, blank_carries}
use Rattle.years.proofs.ListedLaws.{findings_listed as listed}
use Rattle.years.proofs.JoinLaws.{lengths_same as lengths_by, fits_same as fits_by}
use Rattle.positions.specs.Books.{position_shape, fresh_fault, ask_fault}
use Rattle.positions.specs.Log.{positions_of, log_fault}
use Rattle.positions.specs.Offences.{verdict_on}
use Rattle.positions.specs.Judge.{log_verdict, judge_fault}
use Rattle.position_demands.specs.Calls.{Step, judge_log, Lent, Given}
use Rattle.position_demands.specs.Calls.{Gives, fresh_gives, judge_gives, ask_gives, lend_gives, Ran, numbers}
use Rattle.position_demands.specs.Calls.{left}
use Rattle.position_demands.specs.Calls.{none as no_call, next as a_call}
use Rattle.position_demands.specs.Demand1.{named_number}
use Rattle.position_demands.specs.Demand2.{log_day, History, days_of, recorded, history, full_room}
use Rattle.position_demands.specs.Join.{join_log}
use Rattle.position_demands.specs.Demand3.{StepJoined, makes, judges, asks, lends, StepsJoined, none, more}
use Rattle.position_demands.specs.Demand3.{roomy, all_roomy, more as one_more, Fair}
use Rattle.position_demands.specs.Demand3.{all_accepted, full_size}
use Rattle.position_demands.proofs.Demand1.{number_named}
use Rattle.position_demands.proofs.Demand2.{Holds, holds_step}
use Rattle.position_demands.proofs.JoinDays.{verdict_joined}
use Rattle.position_demands.proofs.JoinLogs.{header_stands, fault_same, positions_joined}

-- ---- the two histories with their books, on a book that carries nothing
pub record Beside (a b : ℕ) (h h' : History) (book book' : List ℕ) : Type 0 where
  pub holds : Holds h book
  pub holds' : Holds h' book'
  pub same : h'.from ≡ h.from
  pub nothing : (y l : ℕ) → l < ladders One → carried h.from y l ≡ 0
  pub each : h'.logs ≡ map (join_log a b) h.logs

module _ (a b : ℕ) (two : Two a b) where
  -- ---- days
  pub day_same : (log : List ℕ) → SameDay a b (log_day log) (log_day (join_log a b log))
  day_same log = record {
    date = ap (λ (x : Header). x.date) (header_stands a b two log);
    verdict = verdict_joined a b two (positions_of log) (positions_of (join_log a b log))
        (positions_joined a b two log);
  }

  pub days_same : (logs : List (List ℕ)) → SameDays a b (map log_day logs) (map log_day (map (join_log a b) logs))
  days_same [] = no_day
  days_same (log ∷ logs) = a_day (day_same log) (days_same logs)

  -- ---- room for all findings
  pub not_short : (log : List ℕ) (room : ℕ) → full_room ≤ room → short_fault (log_verdict log) room ≡ 0
  unfolding short_fault verdict_on position_shape
  not_short log room h =
      let most = found_most (log_verdict log) in
      sym (pick_no _ _ _ _ (le-ltb room (8 * found_count (log_verdict log)) (omega (arith, most))) refl)

  module _ {h h' : History} {book book' : List ℕ} (s : Beside a b h h' book book') where
    pub joined_holds : Written position_shape h.from (map log_day (map (join_log a b) h.logs)) book'
    joined_holds =
        subst (λ (xs : List (List ℕ)). Written position_shape h.from (map log_day xs) book') s.each
        (subst (λ (x : List ℕ). Written position_shape x (days_of h') book') s.same s.holds')

    pub lengths_same : length book' ≡ length book
    lengths_same = lengths_by (kept s.holds) (kept joined_holds) (days_same h.logs)

    fits_same : (rulebook date : ℕ)
        → fits_fault position_shape rulebook date book' ≡ fits_fault position_shape rulebook date book
    fits_same = fits_by (kept s.holds) (kept joined_holds) (days_same h.logs)

    -- ---- the numbers
    judge_same : (log out out' : List ℕ) → short_fault (log_verdict log) (length out) ≡ 0 → full_room ≤ length out'
        → judge_fault (join_log a b log) book' (length out') ≡ judge_fault log book (length out)
    unfolding judge_fault
    judge_same log out out' fits full =
        ap₂ or_else (fault_same a b two log)
        (ap₂ or_else
        (ap (λ (x : Header). fits_fault position_shape x.rulebook x.date book') (header_stands a b two log)
        ∙ fits_same (header_of log).rulebook (header_of log).date)
        (not_short (join_log a b log) (length out') full ∙ sym fits))

    ask_same : (group kind family : ℕ) → ask_fault book' group kind family ≡ ask_fault book group kind family
    unfolding ask_fault_as
    ask_same group kind family =
        ap (λ (t : Bool). pick (not t) 17 (pick (not (in_range position_shape.kinds group kind family)) 21 0))
        ((kept joined_holds).good ∙ sym (kept s.holds).good)

    -- a step that is fair: it was accepted, or there was full room
    pub named_same : (w w' : Lent) → w.book ≡ book → w'.book ≡ book' → {c c' : Step} → StepJoined a b c c'
        → ((log : List ℕ) → c ≡ judge_log log → short_fault (log_verdict log) (length w.out) ≡ 0)
        → full_room ≤ length w'.out → named_number w' c' ≡ named_number w c
    unfolding named_number
    named_same w w' e e' (makes {rulebook}) f l =
        ap (λ (x : List ℕ). fresh_fault (length x) rulebook) e'
        ∙ ap (λ (n : ℕ). fresh_fault n rulebook) lengths_same
        ∙ sym (ap (λ (x : List ℕ). fresh_fault (length x) rulebook) e)
    named_same w w' e e' (judges {log}) f l =
        ap (λ (x : List ℕ). judge_fault (join_log a b log) x (length w'.out)) e'
        ∙ judge_same log w.out w'.out (f log refl) l
        ∙ sym (ap (λ (x : List ℕ). judge_fault log x (length w.out)) e)
    named_same w w' e e' (asks {group} {kind} {family}) f l =
        ap (λ (x : List ℕ). ask_fault x group kind family) e' ∙ ask_same group kind family
        ∙ sym (ap (λ (x : List ℕ). ask_fault x group kind family) e)
    named_same w w' e e' lends f l = refl

  -- ---- the histories alone
  record Alike (h h' : History) : Type 0 where
    same : h'.from ≡ h.from
    nothing : (y l : ℕ) → l < ladders One → carried h.from y l ≡ 0
    each : h'.logs ≡ map (join_log a b) h.logs

  choose_by : (t : Bool) (x x' y y' : History) → Alike x x' → Alike y y' → Alike (pick t x y) (pick t x' y')
  unfolding pick
  choose_by true x x' y y' p q = p
  choose_by false x x' y y' p q = q

  choose : (t t' : Bool) (x x' y y' : History) → t' ≡ t → Alike x x' → Alike y y' → Alike (pick t x y) (pick t' x' y')
  choose t t' x x' y y' e p q =
      subst (λ (u : Bool). Alike (pick t x y) (pick u x' y')) (sym e) (choose_by t x x' y y' p q)

  fresh_alike : (rulebook : ℕ) → Alike (record { from = blank_as position_shape rulebook; logs = [] })
      (record { from = blank_as position_shape rulebook; logs = [] })
  unfolding position_shape
  fresh_alike rulebook =
      record { same = refl; nothing = λ y l less. blank_carries position_shape rulebook y l less; each = refl }

  alike_step : (w w' : Lent) {c c' : Step} (h h' : History) → StepJoined a b c c'
      → named_number w' c' ≡ named_number w c → Alike h h' → Alike (recorded w c h) (recorded w' c' h')
  unfolding recorded named_number
  alike_step w w' h h' (makes {rulebook}) n k =
      choose _ _ _ _ h h' (ap (λ (m : ℕ). eqb m 0) n) (fresh_alike rulebook) k
  alike_step w w' h h' (judges {log}) n k =
      choose _ _ _ _ h h' (ap (λ (m : ℕ). eqb m 0) n)
      (record {
        same = k.same;
        nothing = k.nothing;
        each = ap (λ (xs : List (List ℕ)). join_log a b log ∷ xs) k.each;
      }) k
  alike_step w w' h h' asks n k = k
  alike_step w w' h h' lends n k = k

  alike_of : {h h' : History} {book book' : List ℕ} → Beside a b h h' book book' → Alike h h'
  alike_of s = record { same = s.same; nothing = s.nothing; each = s.each }

  -- ---- a step of both
  pub beside_step : {w w' : Lent} {c c' : Step} {g g' : Given} {h h' : History} → Beside a b h h' w.book w'.book
      → Gives w c g → Gives w' c' g' → StepJoined a b c c' → named_number w' c' ≡ named_number w c
      → Beside a b (recorded w c h) (recorded w' c' h') g.after.book g'.after.book
  beside_step {w} {w'} {h = h} {h' = h'} s m m' j n =
      let k = alike_step w w' h h' j n (alike_of s) in record {
        holds = holds_step h s.holds m;
        holds' = holds_step h' s.holds' m';
        same = k.same;
        nothing = k.nothing;
        each = k.each;
      }

  -- ---- room
  short_none : (log book : List ℕ) (room : ℕ) → judge_fault log book room ≡ 0 → short_fault (log_verdict log) room ≡ 0
  unfolding judge_fault
  short_none log book room e =
      (or_none (fits_fault position_shape _ _ book) _ (or_none (log_fault log) _ e).1).1

  -- what is written fits into the buffer, so it keeps its length
  written_length : (log book out : List ℕ) → short_fault (log_verdict log) (length out) ≡ 0
      → length (put out 0 (findings (log_verdict log) (header_of log).date book)) ≡ length out
  unfolding short_fault
  written_length log book out e =
      let fits = ltb-false (length out) (8 * found_count (log_verdict log)) (pick_zero _ 20 0 (lit< tt) e).0 in
      length_put out 0 (findings (log_verdict log) (header_of log).date book)
      (omega (arith, fits, (listed (log_verdict log) (header_of log).date book).long))

  out_length : {w : Lent} {c : Step} {g : Given} → Gives w c g → roomy c ≡ true → full_room ≤ length w.out
      → full_room ≤ length g.after.out
  unfolding roomy
  out_length (fresh_gives m) r l = l
  out_length {w} (judge_gives {log} {a} {book} {out} m) r l =
      go (eqb (judge_fault log w.book (length w.out)) 0) refl
    where
      go : (t : Bool) → eqb (judge_fault log w.book (length w.out)) 0 ≡ t → full_room ≤ length out
      go true e =
          let z = eqb-true _ 0 e in
          let q : out ≡ put w.out 0 (findings (log_verdict log) (header_of log).date w.book) =
          ap (λ (x : List ℕ × List ℕ). x.1) (m.after ∙ sym (pick_yes _ _ _ _ e refl)) in
          omega (arith, l, ap length q, written_length log w.book w.out (short_none log w.book _ z))
      go false e =
          let q : out ≡ w.out = ap (λ (x : List ℕ × List ℕ). x.1) (m.after ∙ sym (pick_no _ _ _ _ e refl)) in
          omega (arith, l, ap length q)
  out_length (ask_gives m) r l = l
  out_length (lend_gives {out}) r l = leb-true full_room (length out) r

  -- ---- a run that is fair
  fair_step : {w : Lent} {c : Step} {g : Given} {cs : List Step} {gs : List Given} → Gives w c g
      → Fair w (c ∷ cs) (g ∷ gs) → (log : List ℕ) → c ≡ judge_log log
      → short_fault (log_verdict log) (length w.out) ≡ 0
  unfolding named_number
  fair_step {w} {c} {g} m (all_accepted (one_more z rest)) log e =
      short_none log w.book (length w.out)
      (ap (named_number w) (sym e) ∙ sym (number_named w c g m) ∙ z)
  fair_step {w} m (full_size l r) log e = not_short log (length w.out) l

  fair_rest : {w : Lent} {c : Step} {g : Given} {cs : List Step} {gs : List Given} → Gives w c g
      → Fair w (c ∷ cs) (g ∷ gs) → Fair g.after cs gs
  unfolding all_roomy
  fair_rest m (all_accepted (one_more z rest)) = all_accepted rest
  fair_rest {c = c} {cs = cs} m (full_size l r) =
      full_size (out_length m (and_left (roomy c) (all_roomy cs) r) l) (and_right (roomy c) (all_roomy cs) r)

  -- ---- any list of steps
  pub record Runs (w w' : Lent) (h h' : History) (cs cs' : List Step) (gs gs' : List Given) : Type 0 where
    pub numbered : numbers gs' ≡ numbers gs
    pub after : Beside a b (history w h cs gs) (history w' h' cs' gs') (left w gs).book (left w' gs').book

  pub runs : {w w' : Lent} {cs cs' : List Step} {gs gs' : List Given} (h h' : History)
      → Beside a b h h' w.book w'.book → Ran w cs gs → Ran w' cs' gs' → StepsJoined a b cs cs' → Fair w cs gs
      → full_room ≤ length w'.out → all_roomy cs' ≡ true → Runs w w' h h' cs cs' gs gs'
  unfolding history left all_roomy
  runs h h' s no_call no_call none f l r = record { numbered = refl; after = s }
  runs h h' s no_call (a_call m' ran') j f l r = elim j [ ]
  runs h h' s (a_call m ran) no_call j f l r = elim j [ ]
  runs {w} {w'} h h' s (a_call {c = c} {g = g} m ran) (a_call {c = c'} {cs = cs'} {g = g'} m' ran') (more j js) f l r =
      let n : named_number w' c' ≡ named_number w c = named_same s w w' refl refl j (fair_step m f) l in
      let rest = runs (recorded w c h) (recorded w' c' h') (beside_step s m m' j n) ran ran' js (fair_rest m f)
      (out_length m' (and_left (roomy c') (all_roomy cs') r) l) (and_right (roomy c') (all_roomy cs') r) in
      record {
        numbered = ap₂ {C = List ℕ} (λ x xs. x ∷ xs) (number_named w' c' g' m' ∙ n ∙ sym (number_named w c g m))
            rest.numbered;
        after = rest.after;
      }
