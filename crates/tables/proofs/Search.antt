-- Laws of the search by halving: its turns, its end, and that it finds the account in a good table. Assumes nothing.
use mathlib.Core.Path.{◌≡◌, refl, sym, ap, ◌∙◌}
use mathlib.Core.Logic.{⊎_elim}
use mathlib.Core.Bool.{Bool, true, false, not, ◌&&◌}
use mathlib.Core.List.{List, []}
use Prim.Native.Nat.{ℕ, zero, suc, ◌+◌, ◌-◌, ◌*◌, ◌/◌, ◌≤◌, ◌<◌}
use native.Mathlib.Nat.{not-suc-le-zero, le_of_suc-le-suc, eq-or-lt_of_le, lt_trans}
use native.Mathlib.Omega.{arith}
use lib.Dec.{leb, ltb, eqb}
use lib.ListN.{length, get_or, take, drop, length-drop}
use lib.Seq.{length-take-le, get_or-take, get_or-drop}
use borrow.Author.Tests.{leb-true, leb-false, ltb-true, eqb-true, le-leb, lt-leb, lt-ltb, le-ltb, eq-eqb, ne_eqb}
use Rattle.wire.specs.Choice.{pick, within}
use Rattle.wire.proofs.ChoiceLaws.{pick_yes, pick_no, pick_le, and_left}
use Rattle.wire.proofs.BelowLaws.{every_at, first_at, first_passes}
use Rattle.tables.specs.declared.accounts.Account.{Account}
use Rattle.tables.specs.Entries.{entries}
use Rattle.tables.specs.Accounts.{account_at, number_before, account_good, account_good_at, accounts_good}
use Rattle.tables.specs.Accounts.{account_place, account_entry}
use Rattle.tables.specs.Way.{halve, halved, found_account}

by_order : {C : Type 0} (a b : ℕ) → (a ≤ b → C) → (b < a → C) → C
by_order {C} a b f g = go (leb a b) refl
  where
    go : (t : Bool) → leb a b ≡ t → C
    go true e = f (leb-true a b e)
    go false e = g (leb-false a b e)

not_both : (a b : Bool) → (a ≡ true → b ≡ true → ⊥) → a && b ≡ false
not_both true true f = absurd (f refl refl)
not_both true false f = refl
not_both false b f = refl

-- the place of number x in a table
abbrev pub place : List ℕ → ℕ → ℕ
place s x = account_place (account_at s) (entries s) x

-- ---- the turns of the search for number x
module _ (s : List ℕ) (x : ℕ) where
  -- where the next turn begins
  unfoldable pub next : ℕ → ℕ → ℕ
  next from size = pick (leb (account_at s (from + size / 2)).number x) (from + size / 2) from

  pub next_up : (from size : ℕ) → (account_at s (from + size / 2)).number ≤ x → from + size / 2 ≡ next from size
  unfolding next
  next_up from size l = pick_yes _ _ _ _ (le-leb _ _ l) refl

  pub next_stay : (from size : ℕ) → x < (account_at s (from + size / 2)).number → from ≡ next from size
  unfolding next
  next_stay from size l = pick_no _ _ _ _ (lt-leb _ _ l) refl

  pub next_le : (from size : ℕ) → next from size ≤ from + size / 2
  unfolding next
  next_le from size = pick_le _ _ _ _ (omega arith) (omega arith)

  none : (from size : ℕ) → halve zero s x from size ≡ from
  unfolding halve
  none from size = refl

  pub halve_end : (n from size : ℕ) → size ≤ 1 → halve n s x from size ≡ from
  unfolding halve
  halve_end zero from size l = none from size
  halve_end (suc n) from size l = sym (pick_yes _ _ _ _ (le-leb size 1 l) refl)

  step : (n from size : ℕ) → 1 < size → halve (suc n) s x from size ≡ halve n s x (next from size) (size - size / 2)
  unfolding halve next
  step n from size l = sym (pick_no _ _ _ _ (lt-leb size 1 l) refl)

  -- the number of turns does not matter once it is at least the size
  pub halve_turns : (m n from size : ℕ) → size ≤ m → size ≤ n → halve m s x from size ≡ halve n s x from size
  halve_turns zero n from size p q = none from size ∙ sym (halve_end n from size (omega arith))
  halve_turns (suc m) zero from size p q = halve_end (suc m) from size (omega arith) ∙ sym (none from size)
  halve_turns (suc m) (suc n) from size p q =
      by_order size 1 (λ l. halve_end (suc m) from size l ∙ sym (halve_end (suc n) from size l))
      (λ l.
      step m from size l ∙ halve_turns m n (next from size) (size - size / 2) (omega arith) (omega arith)
      ∙ sym (step n from size l))

  pub halve_turn : (n from size : ℕ) → 1 < size → size ≤ n → halve n s x from size ≡ halve n s x (next from size)
      (size - size / 2)
  halve_turn zero from size l h = absurd (omega arith)
  halve_turn (suc n) from size l h = step n from size l ∙ halve_turns n (suc n) _ _ (omega arith) (omega arith)

  pub halve_below : (n from size : ℕ) → 0 < size → halve n s x from size < from + size
  halve_below zero from size l = rw none (omega arith)
  halve_below (suc n) from size l =
      by_order size 1 (λ h. rw (halve_end (suc n) from size h) (omega arith))
      (λ h. rw (step n from size h)
      (omega (arith, halve_below n (next from size) (size - size / 2) (omega arith), next_le from size)))

  pub halved_below : 0 < entries s → halved s x < entries s
  unfolding halved
  halved_below l = omega (arith, halve_below (entries s) 0 (entries s) l)

  -- the entry where halving ends is in the table
  pub halved_fits : (h : ℕ) → h ≡ halved s x → 8 ≤ length s → 8 * h + 8 ≤ length s
  halved_fits h e l = omega (arith, halved_below (omega arith))

  -- ---- what is found
  pub found_here : (h : ℕ) → h ≡ halved s x → 8 ≤ length s → (account_at s h).number ≡ x → take 8 (drop (8 * h) s)
      ≡ found_account s x
  unfolding found_account
  found_here h e l is =
      rw (← e) (pick_yes _ _ _ _ (rw (lt-ltb h (entries s) (omega (arith, halved_below (omega arith))))
      (eq-eqb _ _ is)) refl)

  pub found_not : (halved s x < entries s → (account_at s (halved s x)).number ≡ x → ⊥) → [] ≡ found_account s x
  unfolding found_account
  found_not no_hit =
      pick_no _ _ _ _ (not_both (ltb (halved s x) (entries s)) _ (λ p q. no_hit (ltb-true _ _ p) (eqb-true _ _ q)))
      refl

  placed : place s x < entries s → (account_at s (place s x)).number ≡ x
  unfolding account_place
  placed l = eqb-true _ _ (first_passes (λ k. eqb (account_at s k).number x) (entries s) l)

-- ---- a table that rises
number_above : (before : ℕ) (e : Account) → account_good before e ≡ true → before < e.number
number_above before e t =
    let a = ltb before e.number in
    let b = within 1 128 e.group in
    let d = within 1 2 e.kind in
    ltb-true _ _ (and_left a b (and_left (a && b) d (and_left (a && b && d) (eqb e.spare 0) t)))

module _ (s : List ℕ) (good : accounts_good s ≡ true) where
  above : (k : ℕ) → k < entries s → number_before s k < (account_at s k).number
  unfolding accounts_good
  above k l = number_above (number_before s k) (account_at s k) (every_at (account_good_at s) (entries s) k good l)

  pub rising : (j k : ℕ) → j < k → k < entries s → (account_at s j).number < (account_at s k).number
  unfolding number_before
  rising j zero h l = absurd (not-suc-le-zero h)
  rising j (suc k) h l =
      ⊎_elim (λ (e : j ≡ k). rw e (above (suc k) l)) (λ (m : j < k). lt_trans (rising j k m (omega arith))
      (above (suc k) l))
      (eq-or-lt_of_le (le_of_suc-le-suc h))

  -- what halving and the first place give for the number at place k
  module _ (x k : ℕ) (here : k < entries s) (is : (account_at s k).number ≡ x) where
    pub place_rising : place s x ≡ k
    unfolding account_place
    place_rising =
        first_at (λ j. eqb (account_at s j).number x) k (entries s) here
        (λ j l. ne_eqb _ _ (λ (e : (account_at s j).number ≡ x). omega (arith, rising j k l here))) (eq-eqb _ _ is)

    not_past : (j : ℕ) → j < entries s → (account_at s j).number ≤ x → j ≤ k
    not_past j l m = by_order j k (λ h. h) (λ h. absurd (omega (arith, rising k j h l)))

    past : (j : ℕ) → x < (account_at s j).number → k < j
    past j m =
        by_order j k
        (λ h.
        absurd
        (⊎_elim (λ (e : j ≡ k). omega (arith, ap (λ (i : ℕ). (account_at s i).number) e))
        (λ (l : j < k). omega (arith, rising j k l here))
        (eq-or-lt_of_le h)))
        (λ h. h)

    -- a turn keeps place k
    keeps : (from size : ℕ) → 1 < size → from ≤ k → k < from + size → from + size ≤ entries s
        → (next s x from size ≤ k) × (k < next s x from size + (size - size / 2))
    keeps from size l a b d =
        by_order (account_at s (from + size / 2)).number x
        (λ m. rw (← next_up s x from size m) (not_past (from + size / 2) (omega arith) m, omega arith))
        (λ m. rw (← next_stay s x from size m) (a, omega (arith, past (from + size / 2) m)))

    finds : (n from size : ℕ) → size ≤ n → from ≤ k → k < from + size → from + size ≤ entries s
        → halve n s x from size ≡ k
    finds zero from size h a b d = absurd (omega arith)
    finds (suc n) from size h a b d =
        by_order size 1 (λ l. rw (halve_end s x (suc n) from size l) (omega arith))
        (λ l.
        let q = keeps from size l a b d in
        let w = next_le s x from size in
        rw (step s x n from size l) (finds n (next s x from size) (size - size / 2) (omega arith) q.0 q.1
        (omega arith)))

    pub halved_rising : halved s x ≡ k
    unfolding halved
    halved_rising = finds (entries s) 0 (entries s) (omega arith) (omega arith) (omega arith) (omega arith)

  module _ (x : ℕ) where
    there : place s x < entries s → found_account s x ≡ take 8 (drop (8 * place s x) s)
    there l =
        let is = placed s x l in
        sym (found_here s x (place s x) (sym (halved_rising x (place s x) l is)) (omega arith) is)

    away : entries s ≤ place s x → found_account s x ≡ []
    away l = sym (found_not s x (λ h e. omega (arith, place_rising x (halved s x) h e)))

    -- what halving comes to is the account's entry
    pub found_rising : found_account s x ≡ account_entry s x
    unfolding account_entry
    found_rising =
        by_order (suc (place s x)) (entries s) (λ l. pick_yes _ _ _ _ (lt-ltb _ _ l) (there l))
        (λ l. let h : entries s ≤ place s x = omega arith in pick_no _ _ _ _ (le-ltb _ _ h) (away h))

    pub found_length : eqb (length (found_account s x)) 0 ≡ not (ltb (place s x) (entries s))
    found_length =
        by_order (suc (place s x)) (entries s)
        (λ l.
        let e : length (found_account s x) ≡ 8 =
        ap length (there l) ∙ length-take-le 8 (drop (8 * place s x) s) (rw length-drop (omega arith)) in
        rw (e, lt-ltb _ _ l))
        (λ l. let h : entries s ≤ place s x = omega arith in rw (away h, le-ltb _ _ h))

    pub found_group : place s x < entries s → get_or (found_account s x) 4 0 ≡ (account_at s (place s x)).group
    unfolding account_at
    found_group l =
        ap (λ (f : List ℕ). get_or f 4 0) (there l) ∙ get_or-take 8 (drop (8 * place s x) s) 4 0 (omega arith)
        ∙ get_or-drop (8 * place s x) s 4 0

-- what is known of a part that is what halving comes to
pub found_both : (s : List ℕ) (x : ℕ) (part : List ℕ) → part ≡ found_account s x
    → (part ≡ found_account s x) × (accounts_good s ≡ true → part ≡ account_entry s x)
found_both s x part e = (e, λ good. e ∙ found_rising s good x)
