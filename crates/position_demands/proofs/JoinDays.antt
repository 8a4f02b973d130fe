-- A day's positions and the same with two groups joined: the sums add, and what was over a limit is still over it.
-- Assumes nothing.
use mathlib.Core.Path.{◌≡◌, refl, sym, ap, ap₂, ◌∙◌}
use mathlib.Core.Logic.{◌⊎◌, inl, inr}
use mathlib.Core.Bool.{Bool, true, false, ◌&&◌, ◌||◌}
use Prim.Native.Nat.{ℕ, ◌+◌, ◌≤◌}
use native.Mathlib.Omega.{arith}
use borrow.Author.Tests.{ltb-true, leb-true, lt-ltb, le-leb}
use lib.Dec.{leb, ltb, eqb}
use Rattle.wire.specs.Choice.{pick}
use Rattle.wire.specs.Below.{sum, first, some}
use Rattle.wire.proofs.ChoiceLaws.{pick_no, and_left, and_right, and_yes, and_no}
use Rattle.wire.proofs.BelowLaws.{sum_two, sum_none, sum_cong, first_cong, some_more}
use Rattle.rules.specs.declared.text.Text.{Text}
use Rattle.rules.specs.declared.measure.Lots.{Lots}
use Rattle.rules.specs.declared.kinds.Kinds.TheVariants.{One}
use Rattle.rules.specs.Limits.{held, over_limit}
use Rattle.rules.specs.Ladders.{family}
use Rattle.places.specs.Places.{ladder_of, group_at, family_at, HasLadder}
use Rattle.places.proofs.LadderLaws.{group_of, family_of_lem}
use Rattle.tables.specs.Accounts.{group_in, group_size}
use Rattle.joining.specs.Joining.{joined}
use Rattle.joining.proofs.JoiningLaws.{join_b, join_a, join_other, not_both, group_joined, size_added, size_none}
use Rattle.joining.proofs.JoiningLaws.{size_other}
use Rattle.verdict.specs.Verdict.{offends}
use Rattle.years.specs.Joined.{Two, Other, VerdictJoined}
use Rattle.positions.specs.declared.contracts.Limited.{Limited}
use Rattle.positions.specs.declared.records.Position.{Position}
use Rattle.positions.specs.Books.{position_shape}
use Rattle.positions.specs.LimitEntries.{limit_place}
use Rattle.positions.specs.Log.{Positions}
use Rattle.positions.specs.Offences.{group_on, place_on, is_of, held_of, long_of, short_of, over_either, is_many}
use Rattle.positions.specs.Offences.{family_of}
use Rattle.positions.specs.Offences.{over_on, offence, lowest_on, verdict_on}
use Rattle.position_demands.specs.Join.{Joined}
use Rattle.position_demands.specs.Demand3.{Added}
use Rattle.position_demands.proofs.OffenceLaws.{offences_counted}

-- ---- tests and amounts
-- an amount of one of two groups, on a contract or not
two_picks : (x y t : Bool) (v : ℕ) → x && y ≡ false → pick ((x || y) && t) v 0 ≡ pick (x && t) v 0 + pick (y && t) v 0
unfolding pick
two_picks true true t v e = let q : true ≡ false = e in cc
two_picks true false true v e = omega arith
two_picks true false false v e = refl
two_picks false true true v e = omega arith
two_picks false true false v e = refl
two_picks false false t v e = refl

and_more : (x y x' y' : Bool) → (x ≡ true → x' ≡ true) → (y ≡ true → y' ≡ true) → x && y ≡ true → x' && y' ≡ true
and_more x y x' y' f g e = and_yes x' y' (f (and_left x y e)) (g (and_right x y e))

or_more : (x y x' y' : Bool) → (x ≡ true → x' ≡ true) → (y ≡ true → y' ≡ true) → x || y ≡ true → x' || y' ≡ true
or_more true y x' y' f g e = ap (λ (t : Bool). t || y') (f refl)
or_more false true true y' f g e = refl
or_more false true false y' f g e = g refl
or_more false false x' y' f g e = let q : true ≡ false = sym e in cc

-- more that is held is over the limit where less was
above_more : (limit n m : ℕ) → n ≤ m → ltb limit n ≡ true → ltb limit m ≡ true
above_more limit n m h e = lt-ltb limit m (omega (arith, ltb-true limit n e))

over_more : (text : Text) (today previous : Lots) (n m : ℕ) → n ≤ m → over_limit text (held n) today previous ≡ true
    → over_limit text (held m) today previous ≡ true
over_more text today previous n m h e =
    let one = eqb text.rulebook 1 in
    let two = eqb text.rulebook 2 in
    let t = above_more today.0 n m h in
    or_more _ _ _ _
    (and_more (one && ltb today.0 n) _ _ _ (and_more one _ one _ (λ q. q) t) (above_more previous.0 n m h))
    (and_more two _ two _ (λ q. q) t) e

either_more : (text : Text) (e : Limited) (n m k l : ℕ) → n ≤ m → k ≤ l → over_either text e n k ≡ true
    → over_either text e m l ≡ true
unfolding over_either
either_more text e n m k l h w =
    or_more _ _ _ _ (over_more text e.today e.previous n m h) (over_more text e.today e.previous k l w)

-- ---- a day and the joined day
module _ (a b : ℕ) (two : Two a b) (p p' : Positions) (j : Joined a b p p') where
  group_is : (r : Position) → group_on p' r ≡ joined a b (group_on p r)
  unfolding group_on
  group_is r =
      ap (λ (n : ℕ). group_on' n) j.accounts ∙ group_joined j.account p.accounts two.first_a r.account
    where
      group_on' : ℕ → ℕ
      group_on' n = group_in p'.account n r.account

  place_is : (r : Position) → place_on p' r ≡ place_on p r
  unfolding place_on limit_place
  place_is r =
      ap (first (λ k. eqb (p'.contract k).id r.contract)) j.contracts
      ∙ first_cong _ _ p.contracts (λ k h. ap (λ (e : Limited). eqb e.id r.contract) (j.contract k))

  -- the amount that a record has for a group on a contract, before and after
  module _ (side : Position → Lots) (place : ℕ) where
    abbrev amount : Positions → ℕ → ℕ → ℕ
    amount q group k = pick (is_of q group place (q.position k)) (side (q.position k)).0 0

    moved : (group k : ℕ) → amount p' group k
        ≡ pick (eqb (joined a b (group_on p (p.position k))) group && eqb (place_on p (p.position k)) place)
        (side (p.position k)).0 0
    unfolding is_of
    moved group k =
        ap (λ (r : Position). pick (eqb (group_on p' r) group && eqb (place_on p' r) place) (side r).0 0)
        (j.position k)
        ∙ ap₂ (λ (g c : ℕ). pick (eqb g group && eqb c place) (side (p.position k)).0 0) (group_is (p.position k))
        (place_is (p.position k))

    sum_is : (group : ℕ) → held_of side p' group place ≡ sum (amount p' group) p.records
    unfolding held_of
    sum_is group = ap (sum (amount p' group)) j.records

    sums_add : held_of side p' b place ≡ held_of side p a place + held_of side p b place
    unfolding held_of is_of
    sums_add =
        sum_is b
        ∙ sum_two (amount p' b) (amount p a) (amount p b) p.records
        (λ k.
        let g = group_on p (p.position k) in
        let on = eqb (place_on p (p.position k)) place in
        moved b k
        ∙ ap (λ (t : Bool). pick (t && on) (side (p.position k)).0 0) (join_b a b two.differ g)
        ∙ two_picks (eqb g a) (eqb g b) on (side (p.position k)).0 (not_both g a b two.differ))

    none_left : held_of side p' a place ≡ 0
    none_left =
        sum_is a
        ∙ sum_none (amount p' a) p.records
        (λ k.
        let g = group_on p (p.position k) in
        moved a k
        ∙ sym (pick_no _ _ _ _ (and_no (eqb (joined a b g) a) _ (join_a a b two.differ g)) refl))

    others_stand : (group : ℕ) → Other a b group → held_of side p' group place ≡ held_of side p group place
    unfolding held_of is_of
    others_stand group o =
        sum_is group
        ∙ sum_cong (amount p' group) (amount p group) p.records
        (λ k h.
        let g = group_on p (p.position k) in
        moved group k
        ∙ ap (λ (t : Bool). pick (t && eqb (place_on p (p.position k)) place) (side (p.position k)).0 0)
        (join_other a b two.differ group g o.not_a o.not_b))

  size_is : (group : ℕ) → group_size p'.account p'.accounts group ≡ group_size p'.account p.accounts group
  size_is group = ap (λ (n : ℕ). group_size p'.account n group) j.accounts

  pub added : Added a b p p'
  added = record {
    sums = sums_add;
    none_left = none_left;
    others = λ side group place o. others_stand side place group o;
    sizes = size_is b ∙ size_added j.account p.accounts two.differ;
  }

  -- ---- offences
  family_stands : (place : ℕ) → family_of p' place ≡ family_of p place
  unfolding family_of
  family_stands place =
      ap₂ (λ (t : Text) (e : Limited). family t e.sort e.product) j.text (j.contract place)

  -- a group g that holds no more than b does after the join
  over_stays : (g family' place : ℕ) → ((side : Position → Lots) → held_of side p g place ≤ held_of side p' b place)
      → over_on p g family' place ≡ true → over_on p' b family' place ≡ true
  unfolding over_on
  over_stays g family' place less e =
      let same = ap (λ (f : ℕ). eqb f family') (family_stands place) in
      and_more (eqb (family_of p place) family') _ (eqb (family_of p' place) family') _ (λ q. same ∙ q)
      (λ q.
      ap₂ (λ (t : Text) (x : Limited). over_either t x (long_of p' b place) (short_of p' b place)) j.text
      (j.contract place)
      ∙ either_more p.text (p.contract place) _ _ _ _ (less (λ r. r.long)) (less (λ r. r.short)) q) e

  offence_stays : (g family' : ℕ)
      → ((side : Position → Lots) (place : ℕ) → held_of side p g place ≤ held_of side p' b place)
      → group_size p.account p.accounts g ≤ group_size p'.account p'.accounts b
      → offence p g family' ≡ true → offence p' b family' ≡ true
  unfolding offence is_many
  offence_stays g family' less many e =
      and_more (leb 2 (group_size p.account p.accounts g)) _
      (leb 2 (group_size p'.account p'.accounts b)) _
      (λ q.
      le-leb 2 (group_size p'.account p'.accounts b)
      (omega (arith, many, leb-true 2 (group_size p.account p.accounts g) q)))
      (λ q.
      ap (some (over_on p' b family')) j.contracts
      ∙ some_more (over_on p g family') (over_on p' b family') p.contracts
      (λ k. over_stays g family' k (λ side. less side k)) q) e

  pub stays : (family' : ℕ) → (offence p a family' ≡ true) ⊎ (offence p b family' ≡ true) → offence p' b family' ≡ true
  stays family' (inl o) =
      offence_stays a family' (λ side place. omega (arith, sums_add side place)) (omega (arith, added.sizes)) o
  stays family' (inr o) =
      offence_stays b family' (λ side place. omega (arith, sums_add side place)) (omega (arith, added.sizes)) o

  -- ---- other groups, and the one that is no more
  many_stands : (group : ℕ) → Other a b group → is_many p' group ≡ is_many p group
  unfolding is_many
  many_stands group o =
      ap (leb 2)
      (size_is group ∙ size_other j.account p.accounts two.differ group o.not_a o.not_b)

  over_stands : (group family' place : ℕ) → Other a b group
      → over_on p' group family' place ≡ over_on p group family' place
  unfolding over_on
  over_stands group family' place o =
      ap (λ (f : ℕ). eqb f family' && over_either p'.text (p'.contract place) (long_of p' group place)
      (short_of p' group place)) (family_stands place)
      ∙ ap₂ (λ (t : Text) (x : Limited). eqb (family_of p place) family' && over_either t x (long_of p' group place)
      (short_of p' group place)) j.text (j.contract place)
      ∙ ap₂ (λ (n m : ℕ). eqb (family_of p place) family' && over_either p.text (p.contract place) n m)
      (others_stand (λ r. r.long) place group o) (others_stand (λ r. r.short) place group o)

  lowest_stands : (l : ℕ) → Other a b (group_at One l) → lowest_on p' l ≡ lowest_on p l
  unfolding lowest_on
  lowest_stands l o =
      let g = group_at One l in
      let f = family_at l in
      ap (λ (n : ℕ). pick (is_many p' g) (first (over_on p' g f) n) n) j.contracts
      ∙ ap₂ (λ (t : Bool) (n : ℕ). pick t n p.contracts) (many_stands g o)
      (first_cong _ _ p.contracts (λ k h. over_stands g f k o))

  gone : (l : ℕ) → group_at One l ≡ a → offends (verdict_on p') l ≡ false
  unfolding offence is_many
  gone l e =
      offences_counted p' l
      ∙ ap (λ (g : ℕ). offence p' g (family_at l)) e
      ∙ and_no (leb 2 (group_size p'.account p'.accounts a)) _
      (ap (leb 2) (size_is a ∙ size_none j.account p.accounts two.differ))

  -- ---- on ladders
  on_ladder : (q : Positions) (g kind family' : ℕ) → HasLadder One g kind family'
      → offends (verdict_on q) (ladder_of One g kind family') ≡ offence q g family'
  on_ladder q g kind family' h =
      offences_counted q (ladder_of One g kind family')
      ∙ ap₂ (offence q) (group_of One g kind family' h.row h.last_family)
      (family_of_lem One g kind family' h.last_family)

  -- any group has the ladders that b has
  ladder_any : (g kind family' : ℕ) → 1 ≤ g → g ≤ 128 → HasLadder One b kind family' → HasLadder One g kind family'
  ladder_any g kind family' low high h = record {
    row = record {
      first_group = low;
      last_group = high;
      least_kind = h.row.least_kind;
      last_kind = h.row.last_kind;
    };
    last_family = h.last_family;
  }

  pub verdict_joined : VerdictJoined a b (verdict_on p) (verdict_on p')
  unfolding verdict_on position_shape
  verdict_joined = record {
    shape = refl;
    rulebook = ap (λ (t : Text). t.rulebook) j.text;
    contracts = j.contracts;
    stays = on_b;
    lowest = λ l h o. lowest_stands l o;
    id =
        λ l h o.
        ap (λ (k : ℕ). (p'.contract k).id) (lowest_stands l o)
        ∙ ap (λ (e : Limited). e.id) (j.contract (lowest_on p l));
    member = λ l h o. refl;
    none_left = λ l h e. gone l e;
  }
    where
      on_b : (kind family' : ℕ) → HasLadder One b kind family'
          → (offends (verdict_on p) (ladder_of One a kind family') ≡ true)
          ⊎ (offends (verdict_on p) (ladder_of One b kind family') ≡ true)
          → offends (verdict_on p') (ladder_of One b kind family') ≡ true
      on_b kind family' h (inl o) =
          on_ladder p' b kind family' h
          ∙ stays family'
          (inl (sym (on_ladder p a kind family' (ladder_any a kind family' two.first_a two.last_a h)) ∙ o))
      on_b kind family' h (inr o) =
          on_ladder p' b kind family' h ∙ stays family' (inr (sym (on_ladder p b kind family' h) ∙ o))
