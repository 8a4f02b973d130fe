-- 02, K4: the call that judges a position log. "Refusals: 22 for any fault in the position log ..; then 17, 18, 9, 20
-- as for a day."
use Rattle.std.specs.Prelude.{ℕ, List, length, Result, Ok}
use Rattle.wire.specs.Choice.{or_else}
use Rattle.wire.specs.Outcomes.{refused, Outcome}
use Rattle.wire.specs.declared.refusal.Refusal.{Refusal}
use Rattle.daylog.specs.Header.{header_of}
use Rattle.book.specs.Fits.{fits_fault}
use Rattle.verdict.specs.Verdict.{Verdict, found_count}
use Rattle.verdict.specs.Settle.{short_fault, written}
use Rattle.positions.specs.Books.{position_shape}
use Rattle.positions.specs.Log.{log_fault, positions_of}
use Rattle.positions.specs.Offences.{verdict_on}

-- a log's verdict
abbrev pub log_verdict : List ℕ → Verdict
log_verdict log = verdict_on (positions_of log)

-- `room` is that of the findings
unfoldable pub judge_fault : (log book : List ℕ) → (room : ℕ) → ℕ
judge_fault log book room =
    or_else (log_fault log)
    (or_else (fits_fault position_shape (header_of log).rulebook (header_of log).date book)
    (short_fault (log_verdict log) room))

-- what `judge` gives: the number of findings, or the refusal; the book and the findings
abbrev pub JudgeGives : (log book out : List ℕ) → Result ℕ Refusal → (book' out' : List ℕ) → Type 0
JudgeGives log book out a book' out' =
    Outcome (judge_fault log book (length out)) (Ok (found_count (log_verdict log))) refused
    (written (log_verdict log) (header_of log).date book out) (book, out) a (book', out')
