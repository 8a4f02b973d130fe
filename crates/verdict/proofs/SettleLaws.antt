-- The day as it is written: head and totals are the book after the day. Assumes nothing.
use mathlib.Core.Path.{◌≡◌, refl, sym, ap, ap₂, ◌∙◌}
use mathlib.Core.Bool.{Bool}
use mathlib.Core.List.{List, ◌++◌}
use Prim.Native.Nat.{ℕ, ◌*◌, ◌/◌, ◌<◌, ◌≤◌}
use native.Mathlib.Omega.{arith}
use borrow.Author.Tests.{eq-eqb, lt-ltb, le-ltb}
use lib.ListN.{length}
use Rattle.std.specs.Prelude.{Ok, Err}
use Rattle.wire.specs.declared.refusal.Refusal.TheVariants.{FindingsShort}
use Rattle.wire.specs.Buffers.{put, put_in, rows}
use Rattle.wire.proofs.ChoiceLaws.{pick_yes, pick_no, pick_le, flip_no}
use Rattle.wire.proofs.AnswerLaws.{done}
use Rattle.wire.proofs.RefusalLaws.{refuse_all}
use Rattle.wire.proofs.BelowLaws.{count_le}
use Rattle.wire.proofs.BufferLaws.{put_in_lem, put_both, length_put, rows_length}
use Rattle.book.specs.declared.shape.Shape.{Shape}
use Rattle.places.specs.Places.{ladders, book_size}
use Rattle.book.specs.Layout.{head_of, book_as}
use Rattle.posting.specs.Raise.{later_year}
use Rattle.book.proofs.BookLaws.{head_length}
use Rattle.verdict.specs.Verdict.{Verdict, offends, found_count, total_after, findings, book_after, verdict_in}
use Rattle.verdict.specs.Verdict.{found_in}
use Rattle.verdict.specs.Settle.{short_fault, settle_fault, SettleGives}
use Rattle.verdict.specs.Way.{total_bytes}
use Rattle.verdict.proofs.RaiseLaws.{row_length}

-- the number of the refusal, by the two tests
pub long_fault : (v : Verdict) (book out : List ℕ) → length book ≡ book_size v.shape.kinds → settle_fault v book out
    ≡ short_fault v (length out)
unfolding settle_fault
long_fault v book out e = sym (pick_no _ _ _ _ (flip_no _ (eq-eqb _ _ e)) refl)

-- every number is a refusal's
pub short_most : (v : Verdict) (room : ℕ) → short_fault v room ≤ 22
unfolding short_fault
short_most v room = pick_le _ 20 0 22 (omega arith) (omega arith)

-- there are no more findings than ladders
pub found_most : (v : Verdict) → found_count v ≤ ladders v.shape.kinds
unfolding found_count
found_most v = count_le (offends v) (ladders v.shape.kinds)

module _ (shape : Shape) (rulebook : ℕ) (places ids members : List ℕ) where
  -- the findings are counted by the places alone
  pub found_in_lem : found_in shape.kinds places (length ids / 2)
      ≡ found_count (verdict_in shape rulebook places ids members)
  unfolding found_in found_count verdict_in offends
  found_in_lem = refl

  pub book_written : (date : ℕ) (book b₁ b₂ : List ℕ) (later : Bool) → later ≡ later_year book date
      → length book ≡ book_size shape.kinds
      → b₁ ≡ put book 16 (rows (total_bytes later places book (length ids / 2)) (ladders shape.kinds))
      → b₂ ≡ put_in b₁ 0 (head_of shape.letter rulebook date)
      → b₂ ≡ book_after (verdict_in shape rulebook places ids members) date book
  unfolding book_after book_as total_after verdict_in offends total_bytes
  book_written date book b₁ b₂ later is long raised head =
      head ∙ put_in_lem b₁ 0 top (rw (head_length, ap length raised) (omega (arith, written)))
      ∙ ap (λ (b : List ℕ). put b 0 top) raised
      ∙ put_both book top totals 16 (head_length shape.letter rulebook date) (omega (arith, totals_length))
      ∙ ap (λ (t : Bool). top ++ rows (total_bytes t places book (length ids / 2)) (ladders shape.kinds)) is
    where
      top : List ℕ
      top = head_of shape.letter rulebook date

      totals : List ℕ
      totals = rows (total_bytes later places book (length ids / 2)) (ladders shape.kinds)

      totals_length : length totals ≡ 2 * ladders shape.kinds
      totals_length =
          rows_length (total_bytes later places book (length ids / 2)) 2
          (row_length 0 later places book (length ids / 2)) (ladders shape.kinds)

      written : length (put book 16 totals) ≡ book_size shape.kinds
      written = length_put book 16 totals (omega (arith, totals_length)) ∙ long

  -- what `settle` gives, where the book has its length and n findings were counted
  module _ (date : ℕ) (book out : List ℕ) (n : ℕ) (long : length book ≡ book_size shape.kinds)
      (counted : n ≡ found_in shape.kinds places (length ids / 2)) where
    abbrev v : Verdict
    v = verdict_in shape rulebook places ids members

    fault_is : settle_fault v book out ≡ short_fault v (length out)
    unfolding verdict_in
    fault_is = long_fault v book out long

    pub settle_short : length out < 8 * n → SettleGives v date book out (Err FindingsShort) book out
    unfolding short_fault
    settle_short h =
        refuse_all FindingsShort
        (pick_yes _ _ _ _ (lt-ltb (length out) (8 * found_count v) (omega (arith, counted, found_in_lem))) refl
        ∙ sym fault_is)

    pub settle_done : {b o : List ℕ} → 8 * n ≤ length out → b ≡ book_after v date book
        → o ≡ put out 0 (findings v date book)
        → SettleGives v date book out (Ok n) b o
    unfolding short_fault
    settle_done h p q =
        done _ (fault_is
        ∙ sym (pick_no _ _ _ _ (le-ltb (length out) (8 * found_count v) (omega (arith, counted, found_in_lem))) refl))
        (ap Ok (counted ∙ found_in_lem))
        (ap₂ (λ x y. (x, y)) p q)
