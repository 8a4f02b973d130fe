-- When a fresh book is made, what its writes leave, and what it holds. Assumes nothing.
use mathlib.Core.Path.{◌≡◌, refl, sym, ◌∙◌}
use mathlib.Core.Bool.{true, not}
use mathlib.Core.List.{List}
use Prim.Native.Nat.{ℕ, ◌<◌, ◌≤◌, zero-le}
use native.Mathlib.Omega.{arith}
use borrow.Author.Tests.{eqb-true, not-false}
use lib.Dec.{eqb}
use lib.ListN.{length}
use Rattle.wire.specs.Bytes.{bytes}
use Rattle.wire.specs.Buffers.{put, put_in, rows}
use Rattle.wire.proofs.ChoiceLaws.{pick_zero, pick_le}
use Rattle.wire.proofs.BufferLaws.{put_in_lem, put_whole, then}
use Rattle.rules.specs.Codes.{is_rulebook}
use Rattle.book.specs.declared.shape.Shape.{Shape}
use Rattle.places.specs.Places.{ladders, book_size}
use Rattle.book.specs.Shape.{rulebook_of}
use Rattle.book.specs.Layout.{head_of, book_as, last_date, total_at}
use Rattle.book.specs.Sound.{sound_as}
use Rattle.posting.specs.Fresh.{fresh_fault_as}
use Rattle.book.proofs.BookLaws.{head_length, book_length, rulebook_of_book, date_of_book, total_of_book}
use Rattle.book.proofs.BookLaws.{sound_of_book}

pub record Making (shape : Shape) (len rulebook : ℕ) : Type 0 where
  pub known : is_rulebook rulebook ≡ true
  pub long : len ≡ book_size shape.kinds

pub made : (shape : Shape) (len rulebook : ℕ) → fresh_fault_as shape len rulebook ≡ 0 → Making shape len rulebook
unfolding fresh_fault_as
made shape len rulebook e =
    let one = pick_zero (not (is_rulebook rulebook)) 4 _ (omega arith) e in
    let two = pick_zero (not (eqb len (book_size shape.kinds))) 17 0 (omega arith) one.1 in
    record { known = not-false _ one.0; long = eqb-true len (book_size shape.kinds) (not-false _ two.0) }

-- every number is a refusal's
pub fresh_most : (shape : Shape) (len rulebook : ℕ) → fresh_fault_as shape len rulebook ≤ 22
unfolding fresh_fault_as
fresh_most shape len rulebook = pick_le _ 4 _ 22 (omega arith) (pick_le _ 17 0 22 (omega arith) (omega arith))

-- the head and the zero totals, one after the other, are the whole book
pub fresh_written : (shape : Shape) (b r₁ r₂ : List ℕ) (rulebook : ℕ) → length b ≡ book_size shape.kinds
    → r₁ ≡ put_in b 0 (head_of shape.letter rulebook 0)
    → r₂ ≡ put r₁ 16 (rows (λ _. bytes 2 0) (ladders shape.kinds))
    → r₂ ≡ book_as shape rulebook 0 (λ l. 0)
unfolding book_as
fresh_written shape b r₁ r₂ rulebook long e₁ e₂ =
    let top = head_of shape.letter rulebook 0 in
    let h : length (head_of shape.letter rulebook 0) ≡ 16 = head_length shape.letter rulebook 0 in
    then b r₁ r₂ top _ 0 16 zero-le (e₁ ∙ put_in_lem b 0 top (omega arith)) (omega arith) e₂
    ∙ put_whole b _ (book_length shape rulebook 0 (λ l. 0) ∙ sym long)

-- ---- a fresh book is sound, and holds its rulebook, no date and no offence
pub record Fresh (shape : Shape) (book : List ℕ) (rulebook : ℕ) : Type 0 where
  pub good : sound_as shape book ≡ true
  pub date : last_date book ≡ 0
  pub same : rulebook_of book ≡ rulebook
  pub totals : (l : ℕ) → l < ladders shape.kinds → total_at book l ≡ 0

pub fresh_holds : (shape : Shape) (rulebook : ℕ) → is_rulebook rulebook ≡ true
    → Fresh shape (book_as shape rulebook 0 (λ l. 0)) rulebook
fresh_holds shape rulebook known = record {
  good = sound_of_book shape rulebook 0 (λ l. 0) known refl (omega arith) (λ l h. zero-le);
  date = date_of_book shape rulebook 0 (λ l. 0) (omega arith);
  same = rulebook_of_book shape rulebook 0 (λ l. 0);
  totals = λ l h. total_of_book shape rulebook 0 (λ l. 0) l h (omega arith);
}
