-- Laws of the questions asked of all numbers below one: a step, an end, and what a yes or a no says of each. Assumes
-- nothing.
use mathlib.Core.Path.{◌≡◌, refl, sym, ap, ap₂, ◌∙◌}
use mathlib.Core.Logic.{⊎_elim}
use mathlib.Core.Bool.{Bool, true, false, ◌&&◌, and-false, not}
use Prim.Native.Nat.{ℕ, zero, suc, ◌+◌, ◌≤◌, ◌<◌, zero-le, suc-le-suc}
use native.Mathlib.Nat.{not-suc-le-zero, le_of_suc-le-suc, eq-or-lt_of_le, lt_of_not-le}
use native.Mathlib.Numerals.{add-one}
use native.Mathlib.Omega.{arith}
use borrow.Author.Tests.{ltb-true, ltb-false, not-true}
use lib.Dec.{ltb}
use Rattle.wire.specs.Choice.{pick}
use Rattle.wire.specs.Below.{every, some, count, sum, first}
use Rattle.wire.proofs.ChoiceLaws.{and_left, and_right, pick_yes, pick_no, pick_le, flip_yes, flip_no}

module _ (p : ℕ → Bool) where
  pub every_none : every p 0 ≡ true
  unfolding every
  every_none = refl

  pub every_next : (i : ℕ) → every p i && p i ≡ every p (i + 1)
  unfolding every
  every_next i = rw add-one

  pub every_more : (i : ℕ) → every p i ≡ true → p i ≡ true → every p (i + 1) ≡ true
  unfolding every
  every_more i all here = rw add-one (simp (all, here))

  pub every_fails : (i n : ℕ) → i < n → p i ≡ false → every p n ≡ false
  unfolding every
  every_fails i zero l e = absurd (not-suc-le-zero l)
  every_fails i (suc n) l e =
      ⊎_elim (λ (q : i ≡ n). rw (← q, e) (and-false (every p i))) (λ (m : i < n). rw (every_fails i n m e))
      (eq-or-lt_of_le (le_of_suc-le-suc l))

  pub every_at : (n k : ℕ) → every p n ≡ true → k < n → p k ≡ true
  unfolding every
  every_at zero k t l = absurd (not-suc-le-zero l)
  every_at (suc n) k t l =
      ⊎_elim (λ (e : k ≡ n). rw e (and_right (every p n) (p n) t))
      (λ (m : k < n). every_at n k (and_left (every p n) (p n) t) m)
      (eq-or-lt_of_le (le_of_suc-le-suc l))

  pub every_all : (n : ℕ) → ((k : ℕ) → k < n → p k ≡ true) → every p n ≡ true
  unfolding every
  every_all zero h = refl
  every_all (suc n) h = rw (every_all n (λ k l. h k (omega arith)), h n (omega arith))

  pub count_none : count p 0 ≡ 0
  unfolding count
  count_none = refl

  pub count_more : (i : ℕ) → count p (i + 1) ≡ count p i + pick (p i) 1 0
  unfolding count
  count_more i = rw add-one

  pub count_le : (n : ℕ) → count p n ≤ n
  unfolding count
  count_le zero = zero-le
  count_le (suc n) = omega (arith, count_le n, pick_le (p n) 1 0 1 (omega arith) (omega arith))

  pub count_up : (i n : ℕ) → i ≤ n → count p i ≤ count p n
  unfolding count
  count_up i zero h = let e : i ≡ 0 = omega arith in rw e zero-le
  count_up i (suc n) h =
      ⊎_elim (λ (q : i ≡ suc n). rw q (omega arith))
      (λ (l : i < suc n). omega (arith, count_up i n (le_of_suc-le-suc l)))
      (eq-or-lt_of_le h)

module _ (p q : ℕ → Bool) where
  pub every_cong : (n : ℕ) → ((k : ℕ) → k < n → p k ≡ q k) → every p n ≡ every q n
  unfolding every
  every_cong zero h = refl
  every_cong (suc n) h = ap₂ (λ (a b : Bool). a && b) (every_cong n (λ k l. h k (omega arith))) (h n (omega arith))

  pub count_cong : (n : ℕ) → ((k : ℕ) → k < n → p k ≡ q k) → count p n ≡ count q n
  unfolding count
  count_cong zero h = refl
  count_cong (suc n) h =
      ap₂ (λ (a : ℕ) (b : Bool). a + pick b 1 0) (count_cong n (λ k l. h k (omega arith))) (h n (omega arith))

module _ (f g : ℕ → ℕ) where
  pub sum_cong : (n : ℕ) → ((k : ℕ) → k < n → f k ≡ g k) → sum f n ≡ sum g n
  unfolding sum
  sum_cong zero h = refl
  sum_cong (suc n) h = ap₂ (λ (a b : ℕ). a + b) (sum_cong n (λ k l. h k (omega arith))) (h n (omega arith))

-- a sum of sums, and of nothing
pub sum_two : (f g h : ℕ → ℕ) (n : ℕ) → ((k : ℕ) → f k ≡ g k + h k) → sum f n ≡ sum g n + sum h n
unfolding sum
sum_two f g h zero e = refl
sum_two f g h (suc n) e = omega (arith, sum_two f g h n e, e n)

pub sum_none : (f : ℕ → ℕ) (n : ℕ) → ((k : ℕ) → f k ≡ 0) → sum f n ≡ 0
unfolding sum
sum_none f zero e = refl
sum_none f (suc n) e = omega (arith, sum_none f n e, e n)

-- a count is a sum of ones
pub count_sum : (p : ℕ → Bool) (n : ℕ) → sum (λ k. pick (p k) 1 0) n ≡ count p n
unfolding sum count
count_sum p zero = refl
count_sum p (suc n) = ap (λ (m : ℕ). m + pick (p n) 1 0) (count_sum p n)

-- the first that passes
pub first_at : (p : ℕ → Bool) (i n : ℕ) → i < n → ((k : ℕ) → k < i → p k ≡ false) → p i ≡ true → first p n ≡ i
unfolding first
first_at p i zero h none here = absurd (not-suc-le-zero h)
first_at p zero (suc n) h none here = sym (pick_yes _ _ _ _ here refl)
first_at p (suc i) (suc n) h none here =
    sym (pick_no _ _ _ _ (none 0 (omega arith)) refl)
    ∙ ap suc (first_at (λ k. p (suc k)) i n (le_of_suc-le-suc h) (λ k l. none (suc k) (suc-le-suc l)) here)

pub first_none : (p : ℕ → Bool) (n : ℕ) → ((k : ℕ) → k < n → p k ≡ false) → first p n ≡ n
unfolding first
first_none p zero none = refl
first_none p (suc n) none =
    sym (pick_no _ _ _ _ (none 0 (omega arith)) refl)
    ∙ ap suc (first_none (λ k. p (suc k)) n (λ k l. none (suc k) (suc-le-suc l)))

pub first_le : (p : ℕ → Bool) (n : ℕ) → first p n ≤ n
unfolding first
first_le p zero = zero-le
first_le p (suc n) = pick_le (p 0) 0 _ (suc n) zero-le (suc-le-suc (first_le (λ k. p (suc k)) n))

pub first_cong : (p q : ℕ → Bool) (n : ℕ) → ((k : ℕ) → k < n → p k ≡ q k) → first p n ≡ first q n
unfolding first
first_cong p q zero h = refl
first_cong p q (suc n) h =
    ap₂ (λ (t : Bool) (m : ℕ). pick t 0 (suc m)) (h 0 (omega arith))
    (first_cong (λ k. p (suc k)) (λ k. q (suc k)) n (λ k l. h (suc k) (suc-le-suc l)))

pub first_passes : (p : ℕ → Bool) (n : ℕ) → first p n < n → p (first p n) ≡ true
unfolding first
first_passes p zero h = absurd (not-suc-le-zero h)
first_passes p (suc n) h = go (p 0) refl (first_passes (λ k. p (suc k)) n)
  where
    go : (t : Bool) → p 0 ≡ t → (first (λ k. p (suc k)) n < n → p (suc (first (λ k. p (suc k)) n)) ≡ true)
        → p (pick (p 0) 0 (suc (first (λ k. p (suc k)) n))) ≡ true
    go true e more = ap p (sym (pick_yes _ _ _ _ e refl)) ∙ e
    go false e more =
        let q : pick (p 0) 0 (suc (first (λ k. p (suc k)) n)) ≡ suc (first (λ k. p (suc k)) n) =
        sym (pick_no _ _ _ _ e refl) in
        ap p q ∙ more (le_of_suc-le-suc (rw q at h))

-- nothing before it passes
pub first_below : (p : ℕ → Bool) (n k : ℕ) → k < first p n → p k ≡ false
unfolding first
first_below p zero k h = absurd (not-suc-le-zero h)
first_below p (suc n) k h = go (p 0) k refl h (first_below (λ i. p (suc i)) n)
  where
    go : (t : Bool) (k : ℕ) → p 0 ≡ t → k < pick (p 0) 0 (suc (first (λ i. p (suc i)) n))
        → ((i : ℕ) → i < first (λ i. p (suc i)) n → p (suc i) ≡ false) → p k ≡ false
    go true k e h more = absurd (omega (arith, pick_yes {A = ℕ} (p 0) 0 0 (suc (first (λ i. p (suc i)) n)) e refl))
    go false zero e h more = e
    go false (suc k) e h more =
        more k (omega (arith, pick_no {A = ℕ} (p 0) _ 0 (suc (first (λ i. p (suc i)) n)) e refl))

pub first_some : (p : ℕ → Bool) (n : ℕ) → ltb (first p n) n ≡ some p n
unfolding some
first_some p n = go (ltb (first p n) n) refl
  where
    go : (t : Bool) → ltb (first p n) n ≡ t → ltb (first p n) n ≡ not (every (λ k. not (p k)) n)
    go true e =
        let l : first p n < n = ltb-true _ _ e in
        e ∙ sym (flip_yes _ (every_fails (λ k. not (p k)) (first p n) n l (flip_no _ (first_passes p n l))))
    go false e =
        let h : n ≤ first p n = ltb-false _ _ e in
        e ∙ sym (flip_no _ (every_all (λ k. not (p k)) n (λ k l. flip_yes _ (first_below p n k (omega arith)))))

-- ---- places that pass, by how many pass before them
-- the place is below n and passes, and j places before it pass
pub record Passes (p : ℕ → Bool) (n j place : ℕ) : Type 0 where
  pub below : place < n
  pub passes : p place ≡ true
  pub before : count p place ≡ j

-- there is such a place
pub record Passed (p : ℕ → Bool) (n j : ℕ) : Type 0 where
  pub place : ℕ
  pub is : Passes p n j place

module _ (p : ℕ → Bool) where
  pub count_below : (i n : ℕ) → i < n → p i ≡ true → count p i < count p n
  count_below i n l e =
      omega (arith, count_more p i, pick_yes {A = ℕ} (p i) 1 1 0 e refl, count_up p (i + 1) n (omega arith))

  pub count_rises : (i k : ℕ) → count p i < count p k → i < k
  count_rises i k h = lt_of_not-le (λ (l : k ≤ i). omega (arith, count_up p k i l))

  later : (n j : ℕ) → Passed p n j → Passed p (suc n) j
  later n j q =
      record {
        place = q.place;
        is = record {
          below = omega (arith, q.is.below);
          passes = q.is.passes;
          before =
              q.is.before;
        };
      }

  -- every number below the count is that of a place
  pub passed : (n j : ℕ) → j < count p n → Passed p n j
  unfolding count
  passed zero j h = absurd (not-suc-le-zero h)
  passed (suc n) j h = go (p n) refl (passed n j)
    where
      go : (t : Bool) → p n ≡ t → (j < count p n → Passed p n j) → Passed p (suc n) j
      go true e more =
          ⊎_elim (λ (q : j ≡ count p n). record {
            place = n;
            is = record {
              below = omega arith;
              passes = e;
              before =
                  sym q;
            };
          })
          (λ (l : j < count p n). later n j (more l))
          (eq-or-lt_of_le (omega (arith, pick_yes {A = ℕ} (p n) 1 1 0 e refl)))
      go false e more = later n j (more (omega (arith, pick_no {A = ℕ} (p n) 0 1 0 e refl)))

-- ---- whether some number passes
pub some_cong : (p q : ℕ → Bool) (n : ℕ) → ((k : ℕ) → p k ≡ q k) → some p n ≡ some q n
unfolding some
some_cong p q n h = ap not (every_cong (λ k. not (p k)) (λ k. not (q k)) n (λ k l. ap not (h k)))

pub some_none : (p : ℕ → Bool) (n : ℕ) → ((k : ℕ) → p k ≡ false) → some p n ≡ false
unfolding some
some_none p n h = flip_no _ (every_all (λ k. not (p k)) n (λ k l. flip_yes _ (h k)))

pub some_more : (p q : ℕ → Bool) (n : ℕ) → ((k : ℕ) → p k ≡ true → q k ≡ true) → some p n ≡ true → some q n ≡ true
unfolding some
some_more p q n h e = go (every (λ k. not (q k)) n) refl
  where
    none : (k : ℕ) → q k ≡ false → not (p k) ≡ true
    none k f = go (p k) refl
      where
        go : (t : Bool) → p k ≡ t → not (p k) ≡ true
        go true g = let y : true ≡ false = sym (h k g) ∙ f in cc
        go false g = flip_yes _ g

    go : (t : Bool) → every (λ k. not (q k)) n ≡ t → not (every (λ k. not (q k)) n) ≡ true
    go false f = flip_yes _ f
    go true f =
        let all : every (λ k. not (p k)) n ≡ true =
        every_all (λ k. not (p k)) n (λ k l. none k (not-true _ (every_at (λ k. not (q k)) n k f l))) in
        let y : false ≡ true = sym (flip_no _ all) ∙ e in
        cc
