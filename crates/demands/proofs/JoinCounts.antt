-- What the join of two groups does to the counts of a day: the two are added, and a trade between them becomes a
-- self-trade. Assumes nothing.
use mathlib.Core.Path.{◌≡◌, refl, sym, ap, ap₂, ◌∙◌}
use mathlib.Core.Bool.{Bool, true, false, ◌&&◌, ◌||◌, not, and-false}
use mathlib.Core.List.{List}
use Prim.Native.Nat.{ℕ, zero, suc, ◌+◌, ◌≤◌}
use native.Mathlib.Omega.{arith}
use borrow.Author.Tests.{eqb-true, eq-eqb, ne_eqb, leb-true, le-leb, lt-leb}
use lib.Dec.{leb, ltb, eqb}
use Rattle.wire.specs.Choice.{pick}
use Rattle.wire.specs.Below.{some, first}
use Rattle.wire.proofs.ChoiceLaws.{and_left, and_right, and_yes, and_no, and_no_right, same_test}
use Rattle.wire.proofs.BelowLaws.{some_none, some_more, first_cong}
use Rattle.rules.specs.declared.measure.Times.{Times}
use Rattle.rules.specs.declared.text.Text.{Text}
use Rattle.rules.specs.Measure.{times, enough, reached}
use Rattle.tables.specs.declared.contracts.Contract.{Contract}
use Rattle.daylog.specs.declared.record.Record.{Record}
use Rattle.tables.specs.Accounts.{is_in, group_in, has_member}
use Rattle.tables.specs.ContractEntries.{contract_place}
use Rattle.tables.specs.Tables.{Tables, contract_of, has_account, has_contract, group_of, member_on}
use Rattle.joining.specs.Joining.{joined}
use Rattle.joining.proofs.JoiningLaws.{not_both, join_b, join_a, join_other, in_joined, group_joined, member_other}
use Rattle.counts.specs.declared.weigh.Plan.{Plan}
use Rattle.counts.specs.Counting.{exempt1, exempt2, plan_for, plan_of, counts_as, counts_for, fields_fault}
use Rattle.desk.specs.Offences.{family_of}
use Rattle.demands.specs.Counts.{times_of, reaches_on, offence}
use Rattle.demands.specs.Join.{Joined, between_for, between}
use Rattle.years.proofs.ManyLaws.{many_cong, many_none, many_two, many_three}

-- ---- general laws: tests
-- two numbers that are one, which is a third: both are the third
pub both_same : (m n p : ℕ) → eqb m n && eqb m p ≡ eqb m p && eqb n p
both_same m n p = same_test _ _ there back
  where
    there : eqb m n && eqb m p ≡ true → eqb m p && eqb n p ≡ true
    there t =
        let x : m ≡ n = eqb-true m n (and_left (eqb m n) (eqb m p) t) in
        let y = and_right (eqb m n) (eqb m p) t in
        and_yes (eqb m p) (eqb n p) y (eq-eqb n p (sym x ∙ eqb-true m p y))

    back : eqb m p && eqb n p ≡ true → eqb m n && eqb m p ≡ true
    back t =
        let x = and_left (eqb m p) (eqb n p) t in
        let y : n ≡ p = eqb-true n p (and_right (eqb m p) (eqb n p) t) in
        and_yes (eqb m n) (eqb m p) (eq-eqb m n (eqb-true m p x ∙ sym y)) x

middle_no : (w x c : Bool) → x ≡ false → w && x && c ≡ false
middle_no w x c e = rw (e, and-false w)

-- the first test matters only where the middle one holds
middle_same : (w w' x x' c : Bool) → x ≡ x' → (x ≡ true → x' ≡ true → w ≡ w') → w && x && c ≡ w' && x' && c
middle_same w w' true x' c e h = let y : x' ≡ true = sym e in rw (h refl y, y) refl
middle_same w w' false x' c e h = middle_no w false c refl ∙ sym (middle_no w' x' c (sym e))

left_same : (o o' x x' : Bool) → o && x ≡ o' && x' → x ≡ true → x' ≡ true → o ≡ o'
left_same o o' x x' e y y' = sym (and_true o x y) ∙ e ∙ and_true o' x' y'
  where
    and_true : (o x : Bool) → x ≡ true → o && x ≡ o
    and_true true x y = y
    and_true false x y = refl

-- a test in the middle that is one of two which do not hold at once
middle_two : (w x y z c : Bool) → x ≡ y || z → y && z ≡ false
    → pick (w && x && c) 1 0 ≡ pick (w && y && c) 1 0 + pick (w && z && c) 1 0
unfolding pick
middle_two false x y z c e n = refl
middle_two true x true true c e n = cc
middle_two true x true false true e n = rw e
middle_two true x true false false e n = rw e
middle_two true x false true true e n = rw e
middle_two true x false true false e n = rw e
middle_two true x false false c e n = rw e

-- y and z: the one group is a, is b; y2 and z2: the other is. Both are a or b: both a, both b, or one each.
pair_three : (y z y2 z2 : Bool) → y && z ≡ false → y2 && z2 ≡ false
    → pick ((y || z) && (y2 || z2)) 1 0 ≡ pick (y && y2) 1 0 + pick (z && z2) 1 0 + pick ((y && z2) || (z && y2)) 1 0
unfolding pick
pair_three true true y2 z2 n n2 = cc
pair_three true false true true n n2 = cc
pair_three true false true false n n2 = refl
pair_three true false false true n n2 = refl
pair_three true false false false n n2 = refl
pair_three false true true true n n2 = cc
pair_three false true true false n n2 = refl
pair_three false true false true n n2 = refl
pair_three false true false false n n2 = refl
pair_three false false y2 z2 n n2 = refl

swapped : (x y : Bool) → x && y ≡ y && x
swapped true true = refl
swapped true false = refl
swapped false true = refl
swapped false false = refl

-- the two tests on groups stand apart in a count; here they are brought to its end
inner_last : (s m1 m2 c o x : Bool) → s && (o && m1 && m2) && x && c ≡ s && m1 && m2 && c && (o && x)
inner_last false m1 m2 c o x = refl
inner_last true m1 m2 c false x = sym (and-false (m1 && m2 && c))
inner_last true false m2 c true x = refl
inner_last true true false c true x = refl
inner_last true true true c true x = swapped x c

last_two : (k w c : Bool) → k && w && c ≡ k && c && w
last_two true w c = swapped w c
last_two false w c = refl

behind : (k p q r s : Bool) → pick p 1 0 ≡ pick q 1 0 + pick r 1 0 + pick s 1 0
    → pick (k && p) 1 0 ≡ pick (k && q) 1 0 + pick (k && r) 1 0 + pick (k && s) 1 0
unfolding pick
behind true p q r s e = e
behind false p q r s e = refl

-- a test on two groups that is three others, among the other tests of a self-trade
around : (s m1 m2 c o x o1 y o2 z w : Bool) → pick (o && x) 1 0 ≡ pick (o1 && y) 1 0 + pick (o2 && z) 1 0 + pick w 1 0
    → pick (s && (o && m1 && m2) && x && c) 1 0
    ≡ pick (s && (o1 && m1 && m2) && y && c) 1 0 + pick (s && (o2 && m1 && m2) && z && c) 1 0 + pick
    (s && m1 && m2 && w && c) 1 0
around s m1 m2 c o x o1 y o2 z w e =
    rw (inner_last s m1 m2 c o x, inner_last s m1 m2 c o1 y, inner_last s m1 m2 c o2 z, last_two (s && m1 && m2) w c)
    (behind (s && m1 && m2 && c) (o && x) (o1 && y) (o2 && z) w e)

-- ---- general laws: reaching a number
-- no fewer times reach what these reach
pub reached_more : (n m : ℕ) (number : Times) → n ≤ m → reached (times n) number ≡ true → reached (times m) number
    ≡ true
reached_more n m number up e =
    let low : number.0 ≤ n = leb-true _ _ (and_right (leb 1 number.0) (leb number.0 n) e) in
    and_yes (leb 1 number.0) (leb number.0 m) (and_left (leb 1 number.0) (leb number.0 n) e)
    (le-leb number.0 m (omega arith))

-- no times reach nothing, whether there is a number or not
pub reached_none : (n : ℕ) (number : Times) → n ≡ 0 → reached (times n) number ≡ false
reached_none n number z = go (leb 1 number.0) refl
  where
    go : (t : Bool) → leb 1 number.0 ≡ t → reached (times n) number ≡ false
    go true e =
        let low : 1 ≤ number.0 = leb-true _ _ e in
        and_no_right (leb 1 number.0) (leb number.0 n) (lt-leb number.0 n (omega arith))
    go false e = and_no (leb 1 number.0) (leb number.0 n) e

-- ---- general laws: two groups after a join
module _ (a b : ℕ) (apart : a ≡ b → ⊥) where
  -- two groups of which the first is b after the join: both were a, or both b, or one each
  pub join_pair : (g h : ℕ)
      → pick (eqb (joined a b g) (joined a b h) && eqb (joined a b g) b) 1 0
      ≡ pick (eqb g h && eqb g a) 1 0 + pick (eqb g h && eqb g b) 1 0 + pick
      ((eqb g a && eqb h b) || (eqb g b && eqb h a)) 1 0
  join_pair g h =
      rw (
        both_same (joined a b g) (joined a b h) b,
        both_same g h a,
        both_same g h b,
        join_b a b apart g,
        join_b a b apart h,
      )
      (pair_three (eqb g a) (eqb g b) (eqb h a) (eqb h b) (not_both g a b apart) (not_both h a b apart))

  -- two groups of which the first is another after the join
  pub join_pair_other : (c g h : ℕ) → (c ≡ a → ⊥) → (c ≡ b → ⊥) → eqb (joined a b g) (joined a b h)
      && eqb (joined a b g) c ≡ eqb g h && eqb g c
  join_pair_other c g h na nb =
      both_same (joined a b g) (joined a b h) c ∙ ap₂ (λ (s t : Bool). s && t) (join_other a b apart c g na nb)
      (join_other a b apart c h na nb) ∙ sym (both_same g h c)

-- ---- the tables after the join
module _ (a b : ℕ) (t t' : Tables) (j : Joined a b t t') (some_a : 1 ≤ a) (apart : a ≡ b → ⊥) where
  contract_joined : (n : ℕ) → contract_of t' n ≡ contract_of t n
  unfolding contract_of contract_place
  contract_joined n =
      ap (first (λ k. eqb (t'.contract k).id n)) j.contracts
      ∙ first_cong _ _ t.contracts (λ k l. ap (λ (e : Contract). eqb e.id n) (j.contract k))

  has_account_joined : (n : ℕ) → has_account t' n ≡ has_account t n
  unfolding has_account
  has_account_joined n =
      in_joined j.account t'.accounts n ∙ ap (λ (m : ℕ). is_in t.account m n) j.accounts

  has_contract_joined : (n : ℕ) → has_contract t' n ≡ has_contract t n
  unfolding has_contract
  has_contract_joined n = ap₂ (λ (x y : ℕ). ltb x y) (contract_joined n) j.contracts

  groups_joined : (n : ℕ) → group_of t' n ≡ joined a b (group_of t n)
  unfolding group_of
  groups_joined n =
      group_joined j.account t'.accounts some_a n
      ∙ ap (λ (m : ℕ). joined a b (group_in t.account m n)) j.accounts

  pub fault_joined : (r : Record) → fields_fault t' r ≡ fields_fault t r
  unfolding fields_fault
  fault_joined r =
      rw (has_contract_joined r.contract, has_account_joined r.first, has_account_joined r.second, j.text)
      refl

  pub members_other : (g : ℕ) → (g ≡ a → ⊥) → (g ≡ b → ⊥) → member_on t' g ≡ member_on t g
  unfolding member_on
  members_other g na nb =
      member_other j.account t'.accounts apart g na nb
      ∙ ap (λ (m : ℕ). has_member t.account m g) j.accounts

  pub family_joined : (place : ℕ) → family_of t' place ≡ family_of t place
  unfolding family_of
  family_joined place = rw (j.text, j.contract place) refl

  -- ---- a record
  module _ (r : Record) where
    abbrev place_of : ℕ
    place_of = contract_of t r.contract

    abbrev one : ℕ
    one = group_of t r.first

    abbrev two : ℕ
    two = group_of t r.second

    -- what it counts for, were these the groups of its two accounts
    abbrev planned : (g h : ℕ) → Plan
    planned g h = plan_for t.text (t.contract place_of) r place_of g h

    plan_joined : plan_of t' r ≡ planned (joined a b one) (joined a b two)
    unfolding plan_of
    plan_joined =
        rw (
          contract_joined r.contract,
          groups_joined r.first,
          groups_joined
              r.second,
          j.contract place_of,
          j.text,
        ) refl

    abbrev trade : Bool
    trade = eqb r.sort 1

    -- the first order, and the second, is not exempt as a self-trade
    abbrev free1 : Bool
    free1 = not (exempt1 t.text (t.contract place_of) r 1)

    abbrev free2 : Bool
    free2 = not (exempt2 t.text (t.contract place_of) r 1)

    self_counts : (g h : ℕ) → counts_as (planned g h) 1 ≡ trade && (eqb g h && free1 && free2)
    unfolding counts_as plan_for
    self_counts g h = last_no (trade && (eqb g h && free1 && free2))
      where
        last_no : (t : Bool) → t || false || false ≡ t
        last_no true = refl
        last_no false = refl

    -- a record counts as a cancel whatever the groups
    cancel_counts : (g h g' h' k : ℕ) → (k ≡ 1 → ⊥) → counts_as (planned g h) k ≡ counts_as (planned g' h') k
    unfolding counts_as plan_for
    cancel_counts g h g' h' k n = rw (ne_eqb k 1 n) refl

    -- of the groups, only whether they are one matters
    pair_counts : (g h g' h' k : ℕ) → eqb g h ≡ eqb g' h' → counts_as (planned g h) k ≡ counts_as (planned g' h') k
    unfolding counts_as plan_for
    pair_counts g h g' h' k e = rw e refl

    counts : (g k place : ℕ) → counts_for t r g k place ≡ counts_as (planned one two) k && eqb one g
        && eqb place_of place
    unfolding counts_for plan_of plan_for
    counts g k place = refl

    counts_joined : (g k place : ℕ)
        → counts_for t' r g k place ≡ counts_as (planned (joined a b one) (joined a b two)) k && eqb (joined a b one) g
        && eqb place_of place
    unfolding counts_for plan_for
    counts_joined g k place = ap (λ (p : Plan). counts_as p k && eqb p.group g && eqb p.place place) plan_joined

    cancels_add : (k place : ℕ) → (k ≡ 1 → ⊥)
        → pick (counts_for t' r b k place) 1 0
        ≡ pick (counts_for t r a k place) 1 0 + pick (counts_for t r b k place) 1 0
    cancels_add k place n =
        rw (
          counts_joined b k place,
          counts a k place,
          counts b k place,
          cancel_counts (joined a b one)
              (joined a b two) one two k n,
        )
        (middle_two (counts_as (planned one two) k) (eqb (joined a b one) b) (eqb one a) (eqb one b)
        (eqb place_of place) (join_b a b apart one) (not_both one a b apart))

    selfs_add : (place : ℕ)
        → pick (counts_for t' r b 1 place) 1 0
        ≡ pick (counts_for t r a 1 place) 1 0 + pick (counts_for t r b 1 place) 1 0 + pick
        (between_for t r a b place) 1 0
    unfolding between_for
    selfs_add place =
        rw (
          counts_joined b 1 place,
          counts a 1 place,
          counts b 1 place,
          self_counts (joined a b one)
              (joined a b two),
          self_counts one two,
        )
        (around trade free1 free2 (eqb place_of place)
        (eqb (joined a b one) (joined a b two)) (eqb (joined a b one) b) (eqb one two) (eqb one a) (eqb one two)
        (eqb one b)
        ((eqb one a && eqb two b) || (eqb one b && eqb two a)) (join_pair a b apart one two))

    counts_other : (g k place : ℕ) → (g ≡ a → ⊥) → (g ≡ b → ⊥) → counts_for t' r g k place ≡ counts_for t r g k place
    counts_other g k place na nb =
        counts_joined g k place
        ∙ middle_same _ _ _ _ _ (join_other a b apart g one na nb)
        (λ y y'. pair_counts (joined a b one) (joined a b two) one two k
        (left_same _ _ _ _ (join_pair_other a b apart g one two na nb) y y'))
        ∙ sym (counts g k place)

    counts_none : (k place : ℕ) → counts_for t' r a k place ≡ false
    counts_none k place = counts_joined a k place ∙ middle_no (counts_as (planned (joined a b one) (joined a b two)) k)
        (eqb (joined a b one) a) (eqb place_of place) (join_a a b apart one)

  -- ---- the times
  pub times_added : (rs : List Record) (k place : ℕ) → (k ≡ 1 → ⊥) → times_of t' rs b k place
      ≡ times_of t rs a k place + times_of t rs b k place
  unfolding times_of
  times_added rs k place n = many_two _ _ _ rs (λ r. cancels_add r k place n)

  pub selfs_added : (rs : List Record) (place : ℕ) → times_of t' rs b 1 place
      ≡ times_of t rs a 1 place + times_of t rs b 1 place + between t rs a b place
  unfolding times_of between
  selfs_added rs place = many_three _ _ _ _ rs (λ r. selfs_add r place)

  pub times_other : (rs : List Record) (g k place : ℕ) → (g ≡ a → ⊥) → (g ≡ b → ⊥) → times_of t' rs g k place
      ≡ times_of t rs g k place
  unfolding times_of
  times_other rs g k place na nb = many_cong _ _ rs (λ r. counts_other r g k place na nb)

  pub times_none : (rs : List Record) (k place : ℕ) → times_of t' rs a k place ≡ 0
  unfolding times_of
  times_none rs k place = many_none _ rs (λ r. counts_none r k place)

  rises_a : (rs : List Record) (k place : ℕ) → times_of t rs a k place ≤ times_of t' rs b k place
  rises_a rs zero place = omega (arith, times_added rs 0 place (λ e. omega arith))
  rises_a rs (suc zero) place = omega (arith, selfs_added rs place)
  rises_a rs (suc (suc k)) place = omega (arith, times_added rs (suc (suc k)) place (λ e. omega arith))

  rises_b : (rs : List Record) (k place : ℕ) → times_of t rs b k place ≤ times_of t' rs b k place
  rises_b rs zero place = omega (arith, times_added rs 0 place (λ e. omega arith))
  rises_b rs (suc zero) place = omega (arith, selfs_added rs place)
  rises_b rs (suc (suc k)) place = omega (arith, times_added rs (suc (suc k)) place (λ e. omega arith))

  -- ---- the offences
  reaches_is : (rs : List Record) (g k family place : ℕ)
      → reaches_on t' rs g k family place ≡ eqb (family_of t place) family && reached (times (times_of t' rs g k place))
      (enough t.text k)
  unfolding reaches_on
  reaches_is rs g k family place =
      ap₂ (λ (f : ℕ) (text : Text). eqb f family && reached (times (times_of t' rs g k place)) (enough text k))
      (family_joined place) j.text

  -- a group of no fewer times reaches the number too
  reaches_more : (rs : List Record) (g g' k family place : ℕ) → times_of t rs g k place ≤ times_of t' rs g' k place
      → reaches_on t rs g k family place ≡ true → reaches_on t' rs g' k family place ≡ true
  unfolding reaches_on
  reaches_more rs g g' k family place up e =
      let same = and_left (eqb (family_of t place) family) _ e in
      let enough-before = and_right (eqb (family_of t place) family) _ e in
      reaches_is rs g' k family place
      ∙ and_yes (eqb (family_of t place) family) _ same
      (reached_more (times_of t rs g k place) (times_of t' rs g' k place) (enough t.text k) up enough-before)

  reaches_none : (rs : List Record) (k family place : ℕ) → reaches_on t' rs a k family place ≡ false
  reaches_none rs k family place =
      reaches_is rs a k family place
      ∙ and_no_right (eqb (family_of t place) family) _
      (reached_none (times_of t' rs a k place) (enough t.text k) (times_none rs k place))

  -- all places of the contracts are as they were
  offence_is : (rs : List Record) (g k family : ℕ) → offence t' rs g k family ≡ some (reaches_on t' rs g k family)
      t.contracts
  unfolding offence
  offence_is rs g k family = ap (some (reaches_on t' rs g k family)) j.contracts

  offence_more : (rs : List Record) (g g' k family : ℕ)
      → ((place : ℕ) → times_of t rs g k place ≤ times_of t' rs g' k place)
      → offence t rs g k family ≡ true → offence t' rs g' k family ≡ true
  unfolding offence
  offence_more rs g g' k family up e =
      offence_is rs g' k family
      ∙ some_more (reaches_on t rs g k family) (reaches_on t' rs g' k family) t.contracts
      (λ place. reaches_more rs g g' k family place (up place)) e

  pub offence_a : (rs : List Record) (k family : ℕ) → offence t rs a k family ≡ true → offence t' rs b k family ≡ true
  offence_a rs k family = offence_more rs a b k family (rises_a rs k)

  pub offence_b : (rs : List Record) (k family : ℕ) → offence t rs b k family ≡ true → offence t' rs b k family ≡ true
  offence_b rs k family = offence_more rs b b k family (rises_b rs k)

  pub offence_none : (rs : List Record) (k family : ℕ) → offence t' rs a k family ≡ false
  offence_none rs k family = offence_is rs a k family ∙ some_none (reaches_on t' rs a k family) t.contracts
      (reaches_none rs k family)
