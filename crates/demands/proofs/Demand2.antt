-- Demand 2: the theorems to specs/Demand2. Assumes nothing.
use mathlib.Core.Path.{◌≡◌, refl, sym, ap, ◌∙◌, subst}
use mathlib.Core.Bool.{Bool, true, false}
use mathlib.Core.List.{List, [], ◌∷◌, ◌++◌}
use Prim.Native.Nat.{ℕ, ◌<◌}
use native.Mathlib.Omega.{arith}
use borrow.Author.Tests.{eqb-true, eq-eqb}
use lib.Dec.{eqb, lit<}
use lib.ListN.{length, replicate}
use Rattle.wire.specs.Choice.{pick}
use Rattle.wire.specs.Buffers.{put}
use Rattle.wire.proofs.ChoiceLaws.{pick_yes, pick_no, pick_zero, or_none}
use Rattle.rules.specs.Codes.{is_rulebook}
use Rattle.rules.specs.Kinds.{kinds_of}
use Rattle.places.specs.Places.{ladders}
use Rattle.book.specs.Shape.{day_shape, shape_of}
use Rattle.book.specs.Sound.{sound}
use Rattle.book.specs.Fits.{book_fault}
use Rattle.posting.proofs.FreshLaws.{made}
use Rattle.daylog.specs.declared.record.Record.{Record}
use Rattle.daylog.specs.Header.{header_of, log_fault, tables_of}
use Rattle.daylog.specs.Rows.{front, rows_of}
use Rattle.verdict.specs.Verdict.{findings}
use Rattle.years.specs.Written.{none as no_day}
use Rattle.years.proofs.TotalLaws.{kept, blank_carries, totals_counted as totals_by}
use Rattle.years.proofs.TotalLaws.{findings_found as findings_by}
use Rattle.desk.specs.Books.{fresh_fault}
use Rattle.desk.specs.Open.{handed_fault}
use Rattle.desk.specs.End.{row_fault}
use Rattle.demands.specs.Counts.{day_verdict}
use Rattle.demands.specs.Days.{PastDay, ended_day, written, all_written, blank}
use Rattle.demands.specs.Calls.{Step, make_book, open_day, take_record, end_day, abandon_day, ask_book, lend_findings}
use Rattle.demands.specs.Calls.{number_in, Desk, Given, Gives, Ran, none, next, left, full_room}
use Rattle.demands.specs.Paper.{during, Paper, day_in, end_refusal, fresh_book, end_ruled, rule, paper_after}
use Rattle.demands.specs.Logs.{clerk_counts, records_in, log_number, day_book, ruled_file, Judged, JudgesAll}
use Rattle.demands.specs.Logs.{ruled_logs}
use Rattle.demands.specs.Demand2.{begun, CallsRuled, CellsCounted, None, none as nothing, more, NeverChanged}
use Rattle.demands.specs.Demand2.{SoundRun, NeverUnsound, OffencesCounted, FindingsListed, LowestId, History}
use Rattle.demands.specs.Demand2.{recorded, history, found_all}
use Rattle.demands.specs.Demand2.{since, BookOfDays, TotalsCounted, FreshIsBlank, BlankCarriesNothing}
use Rattle.demands.specs.Demand2.{SanctionsFound, FindingsFound, LogsRuled, AlwaysRead, logged_day, log_days}
use Rattle.demands.specs.Demand2.{last_file, FileOfDays, LogsFound}
use Rattle.demands.proofs.CallLaws.{Stands, rest, busy, step, stands_book, begins, runs_read, runs_stand}
use Rattle.demands.proofs.CallLaws.{handed_parts, paper}
use Rattle.demands.proofs.LentLaws.{cells_counted as counted}
use Rattle.demands.proofs.ListedLaws.{offends_is, findings_list}
use Rattle.demands.proofs.IdLaws.{lowest_id as lowest}
use Rattle.demands.proofs.NumberLaws.{refusal, number_is, never_19, never_17}
use Rattle.demands.proofs.PaperLaws.{kept_fresh, recorded_end, open_book, take_book, abandon_book}
use Rattle.demands.proofs.Answers.{reads}
use Rattle.demands.proofs.LogLaws.{call_number, end_number_lem, end_holds, judges, judges_ruled}
use Rattle.demands.proofs.TotalLaws.{Ready, ready, Ended, ended_day_lem, ended_sound, blank_sound}

-- ---- any list of steps
pub calls_ruled : CallsRuled
calls_ruled w cs gs e r = runs_read (λ x. x) (begins w e) r

pub offences_counted : OffencesCounted
offences_counted = offends_is

pub findings_listed : FindingsListed
findings_listed t rs date book = findings_list t rs date book

pub cells_counted : CellsCounted
cells_counted = counted

pub lowest_id : LowestId
lowest_id = lowest

-- ---- refusals
pub never_changed : NeverChanged
never_changed w cs gs e r = all (begins w e) r
  where
    all : {w : Desk} {p : Paper} {cs : List Step} {gs : List Given} → Stands w p → Ran w cs gs → None 19 gs
    all s none = nothing
    all {p = p} s (next {c = c} g r) =
        let t = step s g in
        more (λ q. never_19 p p.course c (sym (number_is p p.course c) ∙ ap number_in (sym t.reply) ∙ q))
        (all t.after r)

-- a day ended on a book that allows it
pub end_ready : (log : List ℕ) (rs : List Record) (row book : List ℕ) (room : ℕ) → log_fault log ≡ 0
    → end_refusal log rs row book room ≡ 0 → Ready log book
unfolding end_refusal
end_ready log rs row book room e f =
    let q = or_none (row_fault (day_in log rs) row) _ (pick_zero _ 1 _ (lit< tt) f).1 in
    ready log book e (or_none (book_fault (header_of log).rulebook (header_of log).date book) _ q.1).0

-- ---- a fresh book
made_known : (len rulebook : ℕ) → fresh_fault len rulebook ≡ 0 → is_rulebook rulebook ≡ true
made_known len rulebook e = (made (day_shape rulebook) len rulebook e).known

pub fresh_is_blank : FreshIsBlank
unfolding fresh_book
fresh_is_blank book rulebook e = sym (pick_yes _ _ _ _ (eq-eqb _ 0 e) refl)

pub blank_carries_nothing : BlankCarriesNothing
unfolding day_shape
blank_carries_nothing rulebook y l h = blank_carries (day_shape rulebook) rulebook y l h

-- ---- the book stays sound
sound_fresh : (book : List ℕ) (rulebook : ℕ) → sound book ≡ true → sound (fresh_book book rulebook) ≡ true
sound_fresh book rulebook good = go (eqb (fresh_fault (length book) rulebook) 0) refl
  where
    go : (t : Bool) → eqb (fresh_fault (length book) rulebook) 0 ≡ t → sound (fresh_book book rulebook) ≡ true
    go true e =
        let z = eqb-true _ 0 e in
        ap sound (fresh_is_blank book rulebook z) ∙ blank_sound rulebook (made_known (length book) rulebook z)
    go false e = ap sound (kept_fresh book rulebook e) ∙ good

sound_step : {w : Desk} {p : Paper} → Stands w p → sound p.book ≡ true → (c : Step)
    → sound (rule p p.course c).after.book ≡ true
unfolding rule end_ruled
sound_step s good (make_book rulebook) = sound_fresh _ rulebook good
sound_step s good (ask_book group kind family) = good
sound_step s good (lend_findings out) = good
sound_step {p = p} s good (open_day log) = ap sound (open_book p p.course log) ∙ good
sound_step {p = p} s good (take_record row) = ap sound (take_book p p.course row) ∙ good
sound_step {p = p} s good abandon_day = ap sound (abandon_book p p.course) ∙ good
sound_step (rest n) good (end_day row) = good
sound_step (busy {log} {c} {book} {out} {rs} {room} n a) good (end_day row) =
    go (eqb (end_refusal log rs row book (length out)) 0) refl
  where
    go : (t : Bool) → eqb (end_refusal log rs row book (length out)) 0 ≡ t
        → sound (rule (paper (during log rs) book out room) (during log rs) (end_day row)).after.book ≡ true
    go true e =
        ap (λ (q : Paper). sound q.book) (sym (pick_yes _ _ _ _ e refl))
        ∙ ended_sound log book rs (end_ready log rs row book (length out) a.sound (eqb-true _ 0 e))
    go false e = ap (λ (q : Paper). sound q.book) (sym (pick_no _ _ _ _ e refl)) ∙ good

-- a fresh book that is asked for in a buffer of another size is refused with 17: so this takes that every rulebook has
-- as many kinds
never_unsound_where : ((rulebook other : ℕ) → kinds_of rulebook ≡ kinds_of other) → NeverUnsound
never_unsound_where alike w cs gs r = all (begins w r.closed) r.good r.ran
  where
    all : {w : Desk} {p : Paper} {cs : List Step} {gs : List Given} → Stands w p → sound p.book ≡ true
        → Ran w cs gs → None 17 gs
    all s good none = nothing
    all {p = p} s good (next {c = c} g r) =
        let t = step s g in
        more
        (λ q.
        never_17 p p.course c good (λ rulebook. alike rulebook _)
        (sym (number_is p p.course c) ∙ ap number_in (sym t.reply) ∙ q))
        (all t.after (sound_step s good c) r)

-- both rulebooks have three kinds today: the one place in these proofs that looks at the number
pub never_unsound : NeverUnsound
unfolding kinds_of
never_unsound = never_unsound_where (λ rulebook other. refl)

-- ---- the days
-- the book is that of a history
abbrev pub Holds : History → List ℕ → Type 0
Holds h book = Ended h.from h.days book

pub holds_fresh : (h : History) (book : List ℕ) (rulebook : ℕ) → Holds h book
    → Holds (pick (eqb (fresh_fault (length book) rulebook) 0) (record { from = blank rulebook; days = [] }) h)
    (fresh_book book rulebook)
holds_fresh h book rulebook k = go (eqb (fresh_fault (length book) rulebook) 0) refl
  where
    go : (t : Bool) → eqb (fresh_fault (length book) rulebook) 0 ≡ t
        → Holds (pick (eqb (fresh_fault (length book) rulebook) 0) (record { from = blank rulebook; days = [] }) h)
        (fresh_book book rulebook)
    go true e =
        let z = eqb-true _ 0 e in
        subst (λ (q : History). Holds q (fresh_book book rulebook)) (pick_yes _ _ _ _ e refl)
        (subst (Ended (blank rulebook) []) (sym (fresh_is_blank book rulebook z))
        (no_day (blank_sound rulebook (made_known (length book) rulebook z))))
    go false e =
        subst (λ (q : History). Holds q (fresh_book book rulebook)) (pick_no _ _ _ _ e refl)
        (subst (Ended h.from h.days) (sym (kept_fresh book rulebook e)) k)

choose : (t : Bool) (h₁ h : History) (p₁ p : Paper) → (t ≡ true → Holds h₁ p₁.book) → Holds h p.book
    → Holds (pick t h₁ h) (pick t p₁ p).book
unfolding pick
choose true h₁ h p₁ p y n = y refl
choose false h₁ h p₁ p y n = n

holds_step : {w : Desk} {p : Paper} (h : History) → Stands w p → Holds h p.book → (c : Step)
    → Holds (recorded p p.course c h) (rule p p.course c).after.book
unfolding rule end_ruled recorded
holds_step h s k (make_book rulebook) = holds_fresh h _ rulebook k
holds_step h s k (ask_book group kind family) = k
holds_step h s k (lend_findings out) = k
holds_step {p = p} h s k (open_day log) = subst (Ended h.from h.days) (sym (open_book p p.course log)) k
holds_step {p = p} h s k (take_record row) = subst (Ended h.from h.days) (sym (take_book p p.course row)) k
holds_step {p = p} h s k abandon_day = subst (Ended h.from h.days) (sym (abandon_book p p.course)) k
holds_step h (rest n) k (end_day row) = k
holds_step h (busy {log} {c} {book} {out} {rs} {room} n a) k (end_day row) =
    choose (eqb (end_refusal log rs row book (length out)) 0) _ h _ (paper (during log rs) book out room)
    (λ e. ended_day_lem h.from h.days log book rs k (end_ready log rs row book (length out) a.sound
    (eqb-true _ 0 e))) k

-- ---- what a run leaves
holds_run : {w : Desk} {p : Paper} {cs : List Step} {gs : List Given} (h : History) → Stands w p → Holds h p.book
    → Ran w cs gs
    → Holds (history p h cs) (paper_after p cs).book
unfolding paper_after history
holds_run h s k none = k
holds_run {p = p} h s k (next {c = c} g r) = holds_run (recorded p p.course c h) (step s g).after
    (holds_step h s k c) r

-- a desk and a paper that stand alike, with the days and their book
pub record Stood (w : Desk) (p : Paper) (h : History) : Type 0 where
  pub stands : Stands w p
  pub holds : Holds h p.book

pub sound_run : {w : Desk} {cs : List Step} {gs : List Given} → SoundRun w cs gs
    → Stood (left w gs) (paper_after (begun w) cs) (since w cs)
sound_run {w} r =
    let s = begins w r.closed in
    record { stands = runs_stand s r.ran; holds = holds_run _ s (no_day r.good) r.ran }

pub left_kept : {w : Desk} {cs : List Step} {gs : List Given} → SoundRun w cs gs → Holds (since w cs) (left w gs).book
left_kept {w} {cs} r = let s = sound_run r in subst (Holds (since w cs)) (sym (stands_book s.stands)) s.holds

pub book_of_days : BookOfDays
book_of_days w cs gs r = (kept (left_kept r)).is

pub totals_counted : TotalsCounted
unfolding day_shape
totals_counted w cs gs r l h =
    let k = left_kept r in
    totals_by (shape_of (since w cs).from) (since w cs).from (left w gs).book (all_written (since w cs).days) k l
    (subst (λ (n : ℕ). l < ladders (kinds_of n)) (kept k).rulebook h)

pub sanctions_found : SanctionsFound
sanctions_found w cs gs r = (kept (left_kept r)).sanctions

-- ---- an accepted end
history_more : (p : Paper) (h : History) (cs : List Step) (c : Step)
    → history p h (cs ++ c ∷ []) ≡ recorded (paper_after p cs) (paper_after p cs).course c (history p h cs)
unfolding history paper_after
history_more p h [] c = refl
history_more p h (d ∷ cs) c = history_more (rule p p.course d).after (recorded p p.course d h) cs c

-- what the rules put in the buffer are the rows of what the day found
rows_found : (from : List ℕ) (days : List PastDay) (log book : List ℕ) (rs : List Record) → Ended from days book
    → Ready log book
    → findings (day_verdict (tables_of log) rs) (header_of log).date book ≡ found_all from (ended_day log rs) days
rows_found from days log book rs k q =
    findings_by (shape_of from) from book (all_written days) k (written (ended_day log rs))
    ((q rs).shaped ∙ ap day_shape (kept k).rulebook)

record EndFound (v : Desk) (p : Paper) (h : History) (row : List ℕ) (g : Given) : Type 0 where
  day : PastDay
  one_more : (recorded p p.course (end_day row) h).days ≡ day ∷ h.days
  bytes : g.after.out ≡ put v.out 0 (found_all h.from day h.days)

end_found_lem : {v : Desk} {p : Paper} (h : History) (row : List ℕ) (g : Given) → Stands v p → Holds h p.book
    → Gives v (end_day row) g
    → number_in g.reply ≡ 0 → EndFound v p h row g
unfolding refusal
end_found_lem h row g (rest n) k m z = absurd (omega (arith, call_number (rest n) m))
end_found_lem h row g (busy {log} {c} {book} {out} {rs} {room} n a) k m z =
    let s = busy n a in
    let e : end_refusal log rs row book (length out) ≡ 0 = sym (end_number_lem row s m) ∙ z in record {
      day = ended_day log rs;
      one_more = ap (λ (q : History). q.days) (recorded_end (paper (during log rs) book out room) log rs row h e);
      bytes =
          (end_holds row s m e).in_out
          ∙ ap (put out 0)
          (rows_found h.from h.days log book rs k (end_ready log rs row book (length out) a.sound e));
    }

pub findings_found : FindingsFound
findings_found w cs gs r row g m z =
    let s = sound_run r in
    let q = end_found_lem (since w cs) row g s.stands s.holds m z in record {
      day = q.day;
      one_more = ap (λ (h : History). h.days) (history_more (begun w) _ cs (end_day row)) ∙ q.one_more;
      bytes = q.bytes;
    }

-- ---- day logs
pub logs_ruled : LogsRuled
logs_ruled = judges_ruled

pub always_read : AlwaysRead
always_read = reads

ended_pick : (t : Bool) (from : List ℕ) (days₁ days : List PastDay) (book₁ book : List ℕ)
    → (t ≡ true → Ended from days₁ book₁) → Ended from days book
    → Ended from (pick t days₁ days) (pick t book₁ book)
unfolding pick
ended_pick true from days₁ days book₁ book y n = y refl
ended_pick false from days₁ days book₁ book y n = n

-- a log that is accepted is of a day that may be ended on the book
log_ready : (book log : List ℕ) → log_number book log ≡ 0 → Ready (front log) book
unfolding log_number
log_ready book log e =
    let q = handed_parts (front log) book clerk_counts (or_none (handed_fault (front log) book clerk_counts) _ e).0 in
    ready (front log) book q.0 q.1

log_kept : (from : List ℕ) (days : List PastDay) (book log : List ℕ) → Ended from days book
    → Ended from (pick (eqb (log_number book log) 0) (logged_day log ∷ days) days) (ruled_file book log)
unfolding ruled_file
log_kept from days book log k =
    ended_pick (eqb (log_number book log) 0) from _ days (day_book book log) book
    (λ e. ended_day_lem from days (front log) book (records_in [] (rows_of log)) k
    (log_ready book log (eqb-true _ 0 e))) k

pub logs_kept : (from : List ℕ) (days : List PastDay) (book : List ℕ) (logs : List (List ℕ)) → Ended from days book
    → Ended from (log_days book days logs) (last_file book (ruled_logs book logs))
unfolding last_file ruled_logs log_days
logs_kept from days book [] k = k
logs_kept from days book (log ∷ logs) k =
    logs_kept from (pick (eqb (log_number book log) 0) (logged_day log ∷ days) days) (ruled_file book log) logs
    (log_kept from days book log k)

-- the file that a list of logs leaves
pub file_kept : (book : List ℕ) (logs : List (List ℕ)) (js : List Judged) → sound book ≡ true → JudgesAll book logs js
    → Ended book (log_days book [] logs) (last_file book js)
file_kept book logs js good r =
    subst (λ (xs : List Judged). Ended book (log_days book [] logs) (last_file book xs))
    (sym (logs_ruled book logs js r)) (logs_kept book [] book logs (no_day good))

pub file_of_days : FileOfDays
file_of_days book logs js good r = (kept (file_kept book logs js good r)).is

pub logs_found : LogsFound
logs_found book logs js good r log w j =
    let file = last_file book js in
    let q = judges file log j in
    (q.written refl).in_out
    ∙ ap (put (replicate full_room 0) 0)
    (rows_found book (log_days book [] logs) (front log) file (records_in [] (rows_of log))
    (file_kept book logs js good r) (log_ready file log (sym q.same)))
