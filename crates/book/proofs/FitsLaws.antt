-- What a book is that fits a day. Assumes nothing.
use mathlib.Core.Path.{◌≡◌}
use mathlib.Core.Bool.{not}
use mathlib.Core.List.{List}
use Prim.Native.Nat.{ℕ, ◌<◌, ◌≤◌}
use native.Mathlib.Omega.{arith}
use borrow.Author.Tests.{leb-false, eqb-true, not-false}
use lib.Dec.{leb, eqb}
use Rattle.wire.proofs.ChoiceLaws.{pick_zero, pick_le}
use Rattle.book.specs.declared.shape.Shape.{Shape}
use Rattle.book.specs.Shape.{rulebook_of}
use Rattle.book.specs.Layout.{last_date}
use Rattle.book.specs.Sound.{sound_as}
use Rattle.book.specs.Fits.{fits_fault}
use Rattle.book.proofs.BookLaws.{SoundBook, sound_facts}

pub record Fits (shape : Shape) (rulebook date : ℕ) (book : List ℕ) : Type 0 where
  pub facts : SoundBook shape book
  pub same : rulebook_of book ≡ rulebook
  pub later : last_date book < date

pub fits : (shape : Shape) (rulebook date : ℕ) (book : List ℕ) → fits_fault shape rulebook date book ≡ 0
    → Fits shape rulebook date book
unfolding fits_fault
fits shape rulebook date book e =
    let one = pick_zero (not (sound_as shape book)) 17 _ (omega arith) e in
    let two = pick_zero (not (eqb (rulebook_of book) rulebook)) 18 _ (omega arith) one.1 in
    let three = pick_zero (leb date (last_date book)) 9 0 (omega arith) two.1 in record {
      facts = sound_facts shape book (not-false _ one.0);
      same = eqb-true (rulebook_of book) rulebook (not-false _ two.0);
      later = leb-false date (last_date book) three.0;
    }

-- every number is a refusal's
pub fits_most : (shape : Shape) (rulebook date : ℕ) (book : List ℕ) → fits_fault shape rulebook date book ≤ 22
unfolding fits_fault
fits_most shape rulebook date book =
    pick_le _ 17 _ 22 (omega arith)
    (pick_le _ 18 _ 22 (omega arith) (pick_le _ 9 0 22 (omega arith) (omega arith)))
