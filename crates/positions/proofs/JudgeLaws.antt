-- The refusals of `judge` in their order, and the day that is settled. Assumes nothing.
use mathlib.Core.Path.{◌≡◌, sym, ap, ap₂, ◌∙◌, subst}
use mathlib.Core.Bool.{true}
use mathlib.Core.List.{List, []}
use Prim.Native.Nat.{ℕ, ◌<◌, ◌≤◌}
use lib.ListN.{length, get_or}
use Rattle.std.specs.Prelude.{Result, Ok, Err}
use Rattle.wire.specs.declared.refusal.Refusal.{Refusal}
use Rattle.wire.specs.Outcomes.{answered, refused, checked, Outcome}
use Rattle.wire.proofs.ChoiceLaws.{or_else_lem, or_most}
use Rattle.wire.proofs.AnswerLaws.{then_by}
use Rattle.wire.proofs.RefusalLaws.{keep_on}
use Rattle.book.specs.declared.shape.Shape.{Shape}
use Rattle.book.specs.Fits.{fits_fault}
use Rattle.book.proofs.FitsLaws.{fits, fits_most}
use Rattle.daylog.specs.declared.header.Header.{Header}
use Rattle.daylog.specs.Header.{header_of, text_of}
use Rattle.verdict.specs.Verdict.{Verdict, found_count, verdict_in}
use Rattle.verdict.specs.Settle.{settle_fault, written, SettleGives}
use Rattle.verdict.proofs.SameVerdict.{settle_same}
use Rattle.verdict.proofs.SettleLaws.{long_fault, short_most}
use Rattle.positions.specs.Books.{position_shape}
use Rattle.positions.specs.Records.{records_good}
use Rattle.positions.specs.Log.{limits_part, accounts_part, records_part, log_fault}
use Rattle.positions.specs.GoodPositions.{GoodPositions}
use Rattle.positions.specs.Offences.{verdict_on}
use Rattle.positions.specs.Judge.{log_verdict, judge_fault, JudgeGives}
use Rattle.positions.specs.Way.{sizes_in, families_in, ids_in, places_in, long_in, short_in, log_places}
use Rattle.positions.proofs.FaultLaws.{front_sound, log_sound, log_most}
use Rattle.positions.proofs.VerdictLaws.{log_same}

-- every number is a refusal's
pub judge_most : (log book : List ℕ) (room : ℕ) → judge_fault log book room ≤ 22
unfolding judge_fault
judge_most log book room =
    or_most _ _ 22 (log_most log)
    (or_most _ _ 22 (fits_most position_shape _ _ book) (short_most (log_verdict log) room))

module _ (log book out : List ℕ) where
  pub log_refused : {A : Type 0} (a : A) {r : Refusal} → Err r ≡ answered (log_fault log) (Ok a) refused
      → JudgeGives log book out (Err r) book out
  unfolding judge_fault
  log_refused a e = keep_on a _ (log_fault log) _ e

  module _ (h : Header) (is : h ≡ header_of log) (fine : log_fault log ≡ 0) where
    -- the book's refusal, in the words of the code
    fits_is : (shape : Shape) → shape ≡ position_shape
        → fits_fault shape h.rulebook h.date book
        ≡ fits_fault position_shape (header_of log).rulebook (header_of log).date book
    fits_is shape e = rw (e, is)

    pub book_refused : (shape : Shape) {r : Refusal} → shape ≡ position_shape
        → Err r ≡ checked (fits_fault shape h.rulebook h.date book) → JudgeGives log book out (Err r) book out
    unfolding judge_fault
    book_refused shape e q = then_by (log_fault log) _ fine (keep_on tt _ _ _ (q ∙ ap checked (fits_is shape e)))

    -- what is known of the log where no refusal came
    pub log_good : GoodPositions h log
    log_good = subst (λ (x : Header). GoodPositions x log) (sym is) (front_sound log (log_sound log fine).0)

    -- the verdict as it is lent, with these sums
    abbrev lent_by : (longs shorts : List ℕ) → Verdict
    lent_by longs shorts =
        verdict_in position_shape h.rulebook
        (places_in (text_of h) (limits_part h log) (families_in (text_of h) (limits_part h log)) longs shorts
        (sizes_in (accounts_part h log))) (ids_in (limits_part h log)) []

    abbrev lent : Verdict
    lent = verdict_in position_shape h.rulebook (log_places h log) (ids_in (limits_part h log)) []

    -- the room alone is left to refuse
    fault_is : (shape : Shape) → shape ≡ position_shape → fits_fault shape h.rulebook h.date book ≡ 0
        → settle_fault (log_verdict log) book out ≡ judge_fault log book (length out)
    unfolding judge_fault verdict_on
    fault_is shape e q =
        let p : fits_fault position_shape (header_of log).rulebook (header_of log).date book ≡ 0 =
        sym (fits_is shape e) ∙ q in
        long_fault (log_verdict log) book out
        (fits position_shape (header_of log).rulebook (header_of log).date book p).facts.long
        ∙ sym (or_else_lem (log_fault log) _ fine ∙ or_else_lem _ _ p)

    pub settled : ((j : ℕ) → get_or log j 0 < 256) → (shape : Shape) → shape ≡ position_shape
        → fits_fault shape h.rulebook h.date book ≡ 0
        → {longs shorts : List ℕ} → longs ≡ long_in (header_of log) log → shorts ≡ short_in (header_of log) log
        → {a : Result ℕ Refusal} {b o : List ℕ} → SettleGives (lent_by longs shorts) h.date book out a b o
        → JudgeGives log book out a b o
    settled small shape e q long short {a} {b} {o} g' =
        let g : SettleGives lent h.date book out a b o =
        subst (λ (v : Verdict). SettleGives v h.date book out a b o)
        (ap₂ lent_by (long ∙ ap (λ (x : Header). long_in x log) (sym is))
        (short ∙ ap (λ (x : Header). short_in x log) (sym is))) g' in
        let same = log_same h log is log_good
        (subst
        (λ (x : Header). records_good (limits_part x log) (accounts_part x log) (records_part x log) ≡ true) (sym is)
        (log_sound log fine).1) small in
        subst
        (λ (f : ℕ). Outcome f (Ok (found_count (log_verdict log))) refused
        (written (log_verdict log) (header_of log).date book out) (book, out) a (b, o))
        (fault_is shape e q)
        (subst (λ (x : Header). SettleGives (log_verdict log) x.date book out a b o) is
        (settle_same lent (log_verdict log) same h.date book out g))
