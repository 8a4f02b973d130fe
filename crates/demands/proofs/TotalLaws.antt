-- A day ended on a book is one that the book may have: so the book is that of the days. Assumes nothing.
use mathlib.Core.Path.{◌≡◌, refl, sym, ap, ◌∙◌, subst}
use mathlib.Core.Bool.{true, false, ◌&&◌}
use mathlib.Core.List.{List, ◌∷◌}
use Prim.Native.Nat.{ℕ}
use native.Mathlib.Omega.{arith}
use borrow.Author.Tests.{leb-true}
use lib.Dec.{leb, eqb}
use Rattle.wire.proofs.ChoiceLaws.{and_left, and_right, and_no}
use Rattle.wire.proofs.BelowLaws.{some_none}
use Rattle.rules.specs.Codes.{is_rulebook}
use Rattle.rules.proofs.FamilyLaws.{family_one}
use Rattle.places.specs.Places.{family_at}
use Rattle.book.specs.declared.shape.Shape.{Shape}
use Rattle.book.specs.Shape.{day_shape, rulebook_of, shape_of}
use Rattle.book.specs.Sound.{sound_as, sound}
use Rattle.book.specs.Fits.{book_fault}
use Rattle.book.proofs.BookLaws.{sound_facts, fresh_sound, rulebook_of_book}
use Rattle.book.proofs.FitsLaws.{fits}
use Rattle.daylog.specs.declared.record.Record.{Record}
use Rattle.daylog.specs.Header.{header_of, log_fault, tables_of}
use Rattle.daylog.proofs.FaultLaws.{log_sound}
use Rattle.tables.specs.Tables.{Tables, tables_in}
use Rattle.verdict.specs.Verdict.{offends, total_after, book_after}
use Rattle.years.specs.Days.{blank_as}
use Rattle.years.specs.Written.{Allowed, Written, more}
use Rattle.years.proofs.TotalLaws.{kept, sound_day}
use Rattle.desk.specs.Offences.{family_of, verdict_on}
use Rattle.demands.specs.Counts.{reaches_on, offence, day_verdict}
use Rattle.demands.specs.Days.{PastDay, ended_day, written, all_written, blank}
use Rattle.demands.proofs.ListedLaws.{offends_is}

tables_rulebook : (log : List ℕ) → (tables_of log).text.rulebook ≡ (header_of log).rulebook
unfolding tables_of tables_in
tables_rulebook log = refl

-- in rulebook 1 there is no offence in families 2 to 15
none_offends : (t : Tables) (rs : List Record) (l : ℕ) → eqb t.text.rulebook 1 && leb 2 (family_at l) ≡ true
    → offends (day_verdict t rs) l ≡ false
unfolding offence reaches_on family_of
none_offends t rs l e =
    let one = and_left (eqb t.text.rulebook 1) (leb 2 (family_at l)) e in
    let low = leb-true 2 (family_at l) (and_right (eqb t.text.rulebook 1) (leb 2 (family_at l)) e) in
    offends_is t rs l
    ∙ some_none _ t.contracts
    (λ k. and_no _ _ (family_one t.text (t.contract k).sort (t.contract k).product (family_at l) one low
    (omega arith)))

-- ---- a book on which a day may be ended, whatever its records
abbrev pub Ready : (log book : List ℕ) → Type 0
Ready log book = (rs : List Record) → Allowed (shape_of book) book (written (ended_day log rs))

pub ready : (log book : List ℕ) → log_fault log ≡ 0 → book_fault (header_of log).rulebook (header_of log).date book ≡ 0
    → Ready log book
unfolding verdict_on
ready log book e f rs =
    let head = header_of log in
    let same : rulebook_of book ≡ (tables_of log).text.rulebook =
    (fits (shape_of book) head.rulebook head.date book f).same ∙ sym (tables_rulebook log) in record {
      shaped = ap day_shape (sym same);
      fits = ap (λ (r : ℕ). book_fault r (header_of log).date book) (tables_rulebook log) ∙ f;
      real = (log_sound log e).date;
      none = none_offends (tables_of log) rs;
    }

pub ended_sound : (log book : List ℕ) (rs : List Record) → Ready log book
    → sound (book_after (day_verdict (tables_of log) rs) (header_of log).date book) ≡ true
unfolding book_after
ended_sound log book rs q =
    let v = day_verdict (tables_of log) rs in
    let after = book_after v (header_of log).date book in
    ap (λ (r : ℕ). sound_as (day_shape r) after)
    (rulebook_of_book v.shape v.rulebook (header_of log).date (total_after v (header_of log).date book)
    ∙ sym (fits (shape_of book) v.rulebook (header_of log).date book (q rs).fits).same)
    ∙ sound_day (q rs)

-- ---- days ended on a book, the latest first
abbrev pub Ended : List ℕ → List PastDay → List ℕ → Type 0
Ended from days book = Written (shape_of from) from (all_written days) book

pub ended_day_lem : (from : List ℕ) (days : List PastDay) (log book : List ℕ) (rs : List Record) → Ended from days book
    → Ready log book
    → Ended from (ended_day log rs ∷ days) (book_after (day_verdict (tables_of log) rs) (header_of log).date book)
ended_day_lem from days log book rs k q =
    more (subst (λ (x : Shape). Allowed x book (written (ended_day log rs))) (ap day_shape (kept k).rulebook) (q rs)) k

-- a sound book of offences, by the shape that it names
pub good_sound : (from : List ℕ) (days : List PastDay) (book : List ℕ) → Ended from days book → sound book ≡ true
good_sound from days book k = ap (λ (r : ℕ). sound_as (day_shape r) book) (kept k).rulebook ∙ (kept k).good

pub known_from : (from : List ℕ) (days : List PastDay) (book : List ℕ) → Ended from days book
    → is_rulebook (rulebook_of from) ≡ true
known_from from days book k =
    subst (λ (r : ℕ). is_rulebook r ≡ true) (kept k).rulebook (sound_facts (shape_of from) book (kept k).good).known

-- ---- a fresh book
pub blank_sound : (rulebook : ℕ) → is_rulebook rulebook ≡ true → sound (blank rulebook) ≡ true
unfolding blank_as
blank_sound rulebook known = fresh_sound rulebook known
