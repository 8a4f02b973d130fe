-- Laws of a word's digits: a step, where they end, and how large a number they name. Assumes nothing.
use mathlib.Core.Path.{◌≡◌, refl, ap, sym, ◌∙◌}
use mathlib.Core.Bool.{Bool, true, false, ◌&&◌}
use mathlib.Core.List.{List}
use Prim.Native.Nat.{ℕ, zero, suc, ◌+◌, ◌*◌, ◌-◌, ◌≤◌, ◌<◌, zero-le}
use native.Mathlib.Nat.{le_of_suc-le-suc, not-suc-le-zero}
use native.Mathlib.Numerals.{add-one}
use native.Mathlib.Omega.{arith}
use lib.Dec.{leb}
use lib.ListN.{length, get_or}
use borrow.Author.Tests.{lt-leb, le-leb}
use Rattle.wire.specs.Choice.{pick}
use Rattle.wire.specs.Below.{every}
use Rattle.wire.proofs.ChoiceLaws.{pick_yes, pick_no, and_left, and_right, and_yes, and_no, and_no_right, bounds}
use Rattle.wire.proofs.BelowLaws.{every_none, every_more, every_fails}
use Rattle.words.specs.Number.{is_digit, digits, worth, number_in}

-- 1 and n zeros
unfoldable ten : ℕ → ℕ
ten zero = 1
ten (suc n) = 10 * ten n

ten_up : (n m : ℕ) → n ≤ m → ten n ≤ ten m
unfolding ten
ten_up zero zero h = omega arith
ten_up zero (suc m) h = omega (arith, ten_up zero m zero-le)
ten_up (suc n) zero h = absurd (not-suc-le-zero h)
ten_up (suc n) (suc m) h = omega (arith, ten_up n m (le_of_suc-le-suc h))

module _ (s : List ℕ) where
  pub digits_none : digits s 0 ≡ true
  unfolding digits
  digits_none = every_none _

  pub digits_more : (i : ℕ) → digits s i ≡ true → is_digit (get_or s i 0) ≡ true → digits s (i + 1) ≡ true
  unfolding digits
  digits_more i all here = every_more (λ k. is_digit (get_or s k 0)) i all here

  pub worth_none : worth s 0 ≡ 0
  unfolding worth
  worth_none = refl

  pub worth_more : (i : ℕ) → worth s (i + 1) ≡ 10 * worth s i + (get_or s i 0 - 48)
  unfolding worth
  worth_more i = rw add-one

  worth_less : (n : ℕ) → digits s n ≡ true → worth s n < ten n
  unfolding digits every worth ten
  worth_less zero e = omega arith
  worth_less (suc n) e =
      omega (
        arith,
        worth_less n (and_left (every (λ k. is_digit (get_or s k 0)) n) _ e),
        bounds 48 57 (get_or s n 0) (and_right (every (λ k. is_digit (get_or s k 0)) n) _ e),
      )

  -- one more digit still fits in 32 bits
  pub worth_small : (i : ℕ) → i < 9 → digits s i ≡ true → worth s i < 100000000
  unfolding ten
  worth_small i l e = omega (arith, worth_less i e, ten_up i 8 (omega arith))

  -- the three ways in which a word is read
  pub too_long : 9 < length s → 0 ≡ number_in s
  unfolding number_in
  too_long l = pick_no _ _ _ _ (and_no _ _ (lt-leb _ _ l)) refl

  pub no_digit : (i : ℕ) → i < length s → is_digit (get_or s i 0) ≡ false → 0 ≡ number_in s
  unfolding number_in digits
  no_digit i l e =
      pick_no _ _ (worth s (length s)) _
      (and_no_right (leb (length s) 9) _ (every_fails (λ k. is_digit (get_or s k 0)) i (length s) l e)) refl

  pub all_digits : (i : ℕ) → i ≡ length s → i ≤ 9 → digits s i ≡ true → worth s i ≡ number_in s
  unfolding number_in
  all_digits i end l e =
      ap (worth s) end
      ∙ pick_yes _ _ _ _ (and_yes _ _ (le-leb (length s) 9 (omega arith)) (ap (digits s) (sym end) ∙ e)) refl

  -- a word of one byte at the most names a digit
  pub one_digit : (n : ℕ) → n ≡ number_in s → length s ≤ 1 → n ≤ 9
  unfolding number_in ten pick
  one_digit n given l = rw given (go (leb (length s) 9 && digits s (length s)) refl)
    where
      go : (t : Bool) → leb (length s) 9 && digits s (length s) ≡ t → pick t (worth s (length s)) 0 ≤ 9
      go true e = omega (arith, worth_less (length s) (and_right (leb (length s) 9) _ e), ten_up (length s) 1 l)
      go false e = zero-le

-- the laws by which a word is read
pub ruleset reading =
    (digits_none, digits_more, worth_none, worth_more, worth_small, too_long, no_digit, all_digits)
