-- Demand 2 for `positions`: the theorems to specs/Demand2. Assumes nothing.
use mathlib.Core.Path.{◌≡◌, refl, sym, ap, ◌∙◌, subst}
use mathlib.Core.Bool.{Bool, true, false}
use mathlib.Core.List.{List, [], ◌∷◌}
use Prim.Native.Nat.{ℕ}
use native.Mathlib.Omega.{arith}
use borrow.Author.Tests.{eqb-true, eq-eqb}
use lib.Dec.{eqb}
use lib.ListN.{length, replicate}
use Rattle.wire.specs.Choice.{pick}
use Rattle.wire.specs.Buffers.{put}
use Rattle.wire.proofs.ChoiceLaws.{pick_no, pick_not, or_none, or_not, flip_no}
use Rattle.places.specs.Places.{book_size}
use Rattle.book.specs.Ask.{ask_fault_as}
use Rattle.book.specs.Fits.{fits_fault}
use Rattle.book.specs.Sound.{sound_as}
use Rattle.book.proofs.BookLaws.{sound_facts}
use Rattle.posting.specs.Fresh.{fresh_fault_as}
use Rattle.posting.proofs.FreshLaws.{made}
use Rattle.daylog.specs.Header.{header_of}
use Rattle.verdict.specs.Verdict.{findings}
use Rattle.verdict.specs.Settle.{short_fault, written}
use Rattle.years.specs.Days.{blank_as}
use Rattle.years.specs.Written.{Written, none as begun, more as one_more}
use Rattle.years.proofs.TotalLaws.{kept, blank_sound, blank_carries, totals_counted as counted}
use Rattle.years.proofs.TotalLaws.{findings_found as found}
use Rattle.years.proofs.ListedLaws.{findings_listed as listed}
use Rattle.positions.specs.Books.{position_shape, fresh_fault, ask_fault}
use Rattle.positions.specs.Log.{tables_fault, front_fault, log_fault}
use Rattle.positions.specs.Offences.{verdict_on}
use Rattle.positions.specs.Judge.{log_verdict, judge_fault}
use Rattle.position_demands.specs.Calls.{Step, make_book, judge_log, ask_book, lend_findings, number_in, Lent, Given}
use Rattle.position_demands.specs.Calls.{Gives, fresh_gives, judge_gives, ask_gives, lend_gives, Ran}
use Rattle.position_demands.specs.Calls.{none as no_call, next as a_call, left}
use Rattle.position_demands.specs.Demand1.{named_number}
use Rattle.position_demands.specs.Demand2.{FindingsListed, log_day, History, days_of, recorded, history, since}
use Rattle.position_demands.specs.Demand2.{SoundRun, None, none, more, StaysSound, NeverUnsound, BookOfDays}
use Rattle.position_demands.specs.Demand2.{TotalsCounted, BlankCarriesNothing, SanctionsFound, FindingsFound}
use Rattle.position_demands.specs.Demand2.{full_room, Judged, clerk_lent, JudgesAll, none as no_log, next as a_log}
use Rattle.position_demands.specs.Demand2.{last_file, accepted, FileOfDays, LogsFound}
use Rattle.position_demands.proofs.OffenceLaws.{allowed}
use Rattle.position_demands.proofs.Demand1.{number_named}

pub findings_listed : FindingsListed
findings_listed p date book = listed (verdict_on p) date book

-- ---- the book is that of a history
abbrev pub Holds : History → List ℕ → Type 0
Holds h book = Written position_shape h.from (days_of h) book

-- a log that is accepted: its day may go into the book
record Taken (log book out : List ℕ) : Type 0 where
  fine : log_fault log ≡ 0
  fits : fits_fault position_shape (header_of log).rulebook (header_of log).date book ≡ 0

taken : (log book out : List ℕ) → judge_fault log book (length out) ≡ 0 → Taken log book out
unfolding judge_fault
taken log book out e =
    let q = or_none (log_fault log) _ e in
    record { fine = q.0; fits = (or_none (fits_fault position_shape _ _ book) _ q.1).0 }

-- a day that is written to a book
written_day : (h : History) (log book out : List ℕ) → Holds h book → judge_fault log book (length out) ≡ 0
    → Holds (record { from = h.from; logs = log ∷ h.logs })
    (written (log_verdict log) (header_of log).date book out).0
written_day h log book out k e =
    let t = taken log book out e in
    one_more (allowed log book t.fine t.fits) k

-- a fresh book
blank_holds : (len rulebook : ℕ) → fresh_fault len rulebook ≡ 0
    → Written position_shape (blank_as position_shape rulebook) [] (blank_as position_shape rulebook)
blank_holds len rulebook e =
    begun (blank_sound position_shape rulebook (made position_shape len rulebook e).known)

choose : (t : Bool) (h₁ h : History) (b₁ b x : List ℕ) → (t ≡ true → Holds h₁ b₁) → Holds h b → x ≡ pick t b₁ b
    → Holds (pick t h₁ h) x
unfolding pick
choose true h₁ h b₁ b x y k e = subst (Holds h₁) (sym e) (y refl)
choose false h₁ h b₁ b x y k e = subst (Holds h) (sym e) k

first_of : (t : Bool) (x y : List ℕ × List ℕ) → (pick t x y).0 ≡ pick t x.0 y.0
unfolding pick
first_of true x y = refl
first_of false x y = refl

pub holds_step : {w : Lent} {c : Step} {g : Given} (h : History) → Holds h w.book → Gives w c g
    → Holds (recorded w c h) g.after.book
unfolding recorded blank_as
holds_step {w} h k (fresh_gives {rulebook} m) =
    choose (eqb (fresh_fault (length w.book) rulebook) 0) _ h _ w.book _
    (λ e. blank_holds (length w.book) rulebook (eqb-true _ 0 e)) k m.after
holds_step {w} h k (judge_gives {log} m) =
    choose (eqb (judge_fault log w.book (length w.out)) 0) _ h _ w.book _
    (λ e. written_day h log w.book w.out k (eqb-true _ 0 e)) k
    (ap (λ (x : List ℕ × List ℕ). x.0) m.after ∙ first_of _ _ _)
holds_step h k (ask_gives m) = k
holds_step h k lend_gives = k

holds_run : {w : Lent} {cs : List Step} {gs : List Given} (h : History) → Holds h w.book → Ran w cs gs
    → Holds (history w h cs gs) (left w gs).book
unfolding history left
holds_run h k no_call = k
holds_run h k (a_call m r) = holds_run (recorded _ _ h) (holds_step h k m) r

pub run_holds : {w : Lent} {cs : List Step} {gs : List Given} → SoundRun w cs gs
    → Holds (since w cs gs) (left w gs).book
run_holds r = holds_run _ (begun r.good) r.ran

pub stays_sound : StaysSound
stays_sound w cs gs r = (kept (run_holds r)).good

pub book_of_days : BookOfDays
book_of_days w cs gs r = (kept (run_holds r)).is

pub totals_counted : TotalsCounted
unfolding position_shape
totals_counted w cs gs r ladder h = counted position_shape _ _ _ (run_holds r) ladder h

pub blank_carries_nothing : BlankCarriesNothing
unfolding position_shape
blank_carries_nothing rulebook y ladder h = blank_carries position_shape rulebook y ladder h

pub sanctions_found : SanctionsFound
sanctions_found w cs gs r = (kept (run_holds r)).sanctions

-- ---- an accepted log
second_of : (t : Bool) (x y : List ℕ × List ℕ) → t ≡ true → (pick t x y).1 ≡ x.1
unfolding pick
second_of true x y e = refl
second_of false x y e = let q : true ≡ false = sym e in cc

pub out_is : {w : Lent} {log : List ℕ} {g : Given} → Gives w (judge_log log) g → number_in g.reply ≡ 0
    → g.after.out ≡ put w.out 0 (findings (log_verdict log) (header_of log).date w.book)
unfolding named_number
out_is {w} {log} {g} (judge_gives m) z =
    ap (λ (x : List ℕ × List ℕ). x.1) m.after
    ∙ second_of _ _ _ (eq-eqb _ 0 (sym (number_named w (judge_log log) g (judge_gives m)) ∙ z))

pub findings_found : FindingsFound
unfolding verdict_on
findings_found w cs gs r log g m z =
    out_is m z ∙ ap (put (left w gs).out 0) (found position_shape _ _ _ (run_holds r) (log_day log) refl)

-- ---- position logs
pub from_pick : (t : Bool) (logs₁ logs : List (List ℕ)) (from b : List ℕ)
    → Holds (pick t (record { from = from; logs = logs₁ }) (record { from = from; logs = logs })) b
    → Holds (record { from = from; logs = pick t logs₁ logs }) b
unfolding pick
from_pick true logs₁ logs from b x = x
from_pick false logs₁ logs from b x = x

-- a log judged on a file: the history goes on
one_log : (h : History) (book log : List ℕ) (g : Given) → Holds h book → Gives (clerk_lent book) (judge_log log) g
    → Holds (record { from = h.from; logs = pick (eqb (number_in g.reply) 0) (log ∷ h.logs) h.logs })
    g.after.book
unfolding recorded named_number
one_log h book log g k m =
    from_pick (eqb (number_in g.reply) 0) (log ∷ h.logs) h.logs h.from g.after.book
    (subst
    (λ (n : ℕ). Holds (pick (eqb n 0) (record { from = h.from; logs = log ∷ h.logs }) h) g.after.book)
    (sym (number_named (clerk_lent book) (judge_log log) g m)) (holds_step h k m))

logs_hold : {book : List ℕ} {logs : List (List ℕ)} {js : List Judged} (h : History) → Holds h book
    → JudgesAll book logs js
    → Holds (record { from = h.from; logs = accepted h.logs logs js }) (last_file book js)
unfolding accepted last_file
logs_hold h k no_log = k
logs_hold h k (a_log {book} {log} {g = g} m r) =
    logs_hold (record { from = h.from; logs = pick (eqb (number_in g.reply) 0) (log ∷ h.logs) h.logs })
    (one_log h book log g k m) r

file_holds : {book : List ℕ} {logs : List (List ℕ)} {js : List Judged} → sound_as position_shape book ≡ true
    → JudgesAll book logs js → Holds (record { from = book; logs = accepted [] logs js }) (last_file book js)
file_holds {book} good r = logs_hold (record { from = book; logs = [] }) (begun good) r

pub file_of_days : FileOfDays
file_of_days book logs js good r = (kept (file_holds good r)).is

pub logs_found : LogsFound
unfolding verdict_on
logs_found book logs js good r log g m z =
    out_is m z ∙ ap (put (replicate full_room 0) 0) (found position_shape _ _ _ (file_holds good r) (log_day log) refl)

-- ---- 17 never comes of our own doing
log_not : (log : List ℕ) → log_fault log ≡ 17 → ⊥
unfolding log_fault front_fault tables_fault
log_not log =
    or_not _ _ 17
    (pick_not _ 22 _ 17 (λ e. omega arith)
    (pick_not _ 22 _ 17 (λ e. omega arith)
    (pick_not _ 22 _ 17 (λ e. omega arith)
    (pick_not _ 22 _ 17 (λ e. omega arith)
    (pick_not _ 22 _ 17 (λ e. omega arith)
    (pick_not _ 22 0 17 (λ e. omega arith) (λ e. omega arith)))))))
    (pick_not _ 22 0 17 (λ e. omega arith) (λ e. omega arith))

fits_not : (rulebook date : ℕ) (book : List ℕ) → sound_as position_shape book ≡ true
    → fits_fault position_shape rulebook date book ≡ 17 → ⊥
unfolding fits_fault
fits_not rulebook date book good e =
    pick_not _ 18 _ 17 (λ z. omega arith) (pick_not _ 9 0 17 (λ z. omega arith) (λ z. omega arith))
    (pick_no _ _ _ _ (flip_no _ good) refl ∙ e)

short_not : (log : List ℕ) (room : ℕ) → short_fault (log_verdict log) room ≡ 17 → ⊥
unfolding short_fault
short_not log room = pick_not _ 20 0 17 (λ e. omega arith) (λ e. omega arith)

judge_not : (log book : List ℕ) (room : ℕ) → sound_as position_shape book ≡ true → judge_fault log book room ≡ 17 → ⊥
unfolding judge_fault
judge_not log book room good =
    or_not (log_fault log) _ 17 (log_not log)
    (or_not (fits_fault position_shape _ _ book) _ 17 (fits_not _ _ book good) (short_not log room))

fresh_not : (book : List ℕ) (rulebook : ℕ) → sound_as position_shape book ≡ true
    → fresh_fault (length book) rulebook ≡ 17 → ⊥
unfolding fresh_fault_as
fresh_not book rulebook good =
    let long : length book ≡ book_size position_shape.kinds = (sound_facts position_shape book good).long in
    pick_not _ 4 _ 17 (λ e. omega arith)
    (λ e.
    zero_not (pick_no _ 0 17 0 (flip_no _ (eq-eqb (length book) (book_size position_shape.kinds) long)) refl ∙ e))
  where
    zero_not : ◌≡◌ {A = ℕ} 0 17 → ⊥
    zero_not e = omega arith

ask_not : (book : List ℕ) (group kind family : ℕ) → sound_as position_shape book ≡ true
    → ask_fault book group kind family ≡ 17 → ⊥
unfolding ask_fault_as
ask_not book group kind family good e =
    pick_not _ 21 0 17 (λ z. omega arith) (λ z. omega arith) (pick_no _ _ _ _ (flip_no _ good) refl ∙ e)

named_not : (w : Lent) (c : Step) → sound_as position_shape w.book ≡ true → named_number w c ≡ 17 → ⊥
unfolding named_number
named_not w (make_book rulebook) good = fresh_not w.book rulebook good
named_not w (judge_log log) good = judge_not log w.book (length w.out) good
named_not w (ask_book group kind family) good = ask_not w.book group kind family good
named_not w (lend_findings out) good = λ e. omega arith

none_run : {w : Lent} {cs : List Step} {gs : List Given} (h : History) → Holds h w.book → Ran w cs gs → None 17 gs
none_run h k no_call = none
none_run {w} h k (a_call {c = c} {g = g} m r) =
    more (λ e. named_not w c (kept k).good (sym (number_named w c g m) ∙ e))
    (none_run (recorded w c h) (holds_step h k m) r)

pub never_unsound : NeverUnsound
never_unsound w cs gs r = none_run (record { from = w.book; logs = [] }) (begun r.good) r.ran
