-- Opening restrictions on a ladder are the offence days that come to a rung of one: so no fewer days have no fewer.
-- Assumes nothing.
use mathlib.Core.Path.{◌≡◌, refl, sym, ap, ◌∙◌}
use mathlib.Core.Bool.{Bool, true, false, not, ◌&&◌, ◌||◌}
use mathlib.Core.List.{List, [], ◌∷◌}
use Prim.Native.Nat.{ℕ, zero, suc, ◌+◌, ◌≤◌, ◌<◌}
use native.Mathlib.Nat.{zero-add}
use native.Mathlib.Omega.{arith}
use borrow.Author.Tests.{eq-eqb, ne_eqb, eqb-true, le-leb}
use lib.Dec.{leb, eqb}
use Rattle.wire.specs.Choice.{pick}
use Rattle.wire.specs.Below.{count}
use Rattle.wire.proofs.ChoiceLaws.{pick_yes, pick_no, and_yes, and_no, flip_no}
use Rattle.wire.proofs.BelowLaws.{count_more}
use Rattle.calendar.specs.Dates.{year}
use Rattle.rules.specs.declared.kinds.Kinds.{Kinds}
use Rattle.rules.specs.declared.kinds.Kinds.TheVariants.{One}
use Rattle.rules.specs.Choices.{by_three}
use Rattle.rules.specs.Codes.{is_rulebook, is_kind}
use Rattle.rules.specs.Kinds.{kinds_in, first_kind}
use Rattle.rules.specs.Ladders.{rung, limit_sanction, sanction, no_opening}
use Rattle.places.specs.Places.{group_at, kind_at}
use Rattle.places.proofs.LadderLaws.{kind_low}
use Rattle.book.specs.declared.shape.Shape.{Shape}
use Rattle.years.specs.Days.{how_many, WrittenDay, offence_on, offence_days, carried, total_over}
use Rattle.years.specs.Restrictions.{sanction_on, sanctions, restrictions, ByRung}
use Rattle.years.specs.Laws.{ThirdRung, LimitRungs}
use Rattle.years.proofs.TotalLaws.{Ours, OfBook}

-- ---- one finding: its sanction forbids to open at the same rungs, with a member in the group or without
-- past rung 3 there is none
past : (r first second third : ℕ) → 4 ≤ r → by_three r first second third 0 ≡ 0
unfolding by_three
past r first second third h =
    sym (pick_no _ _ _ _ (ne_eqb r 1 (λ e. omega arith)) (pick_no _ _ _ _ (ne_eqb r 2 (λ e. omega arith))
    (pick_no _ _ _ _ (ne_eqb r 3 (λ e. omega arith)) refl)))

rungs : (member : Bool) (r : ℕ) → no_opening (pick member (by_three r 1 4 5 0) (by_three r 1 2 3 0)) ≡ eqb r 3
unfolding by_three pick
rungs true zero = refl
rungs false zero = refl
rungs true (suc zero) = refl
rungs false (suc zero) = refl
rungs true (suc (suc zero)) = refl
rungs false (suc (suc zero)) = refl
rungs true (suc (suc (suc zero))) = refl
rungs false (suc (suc (suc zero))) = refl
rungs true (suc (suc (suc (suc r)))) =
    ap (λ (s : ℕ). no_opening s) (past (suc (suc (suc (suc r)))) 1 4 5 (omega arith))
    ∙ sym (ne_eqb (suc (suc (suc (suc r)))) 3 (λ e. omega arith))
rungs false (suc (suc (suc (suc r)))) =
    ap (λ (s : ℕ). no_opening s) (past (suc (suc (suc (suc r)))) 1 2 3 (omega arith))
    ∙ sym (ne_eqb (suc (suc (suc (suc r)))) 3 (λ e. omega arith))

limits : (r : ℕ) → no_opening (limit_sanction r) ≡ eqb r 2 || eqb r 3
unfolding limit_sanction by_three pick
limits zero = refl
limits (suc zero) = refl
limits (suc (suc zero)) = refl
limits (suc (suc (suc zero))) = refl
limits (suc (suc (suc (suc r)))) =
    ap (λ (s : ℕ). no_opening s) (past (suc (suc (suc (suc r)))) 2 7 8 (omega arith))
    ∙ sym (rw (ne_eqb (suc (suc (suc (suc r)))) 2 (λ e. omega arith)) (ne_eqb (suc (suc (suc (suc r)))) 3
    (λ e. omega arith)))

at_three : (rulebook kind r : ℕ) (m : Bool) → is_rulebook rulebook ≡ true → 1 ≤ kind → kind ≤ 3
    → no_opening (sanction rulebook kind r m) ≡ eqb r 3
unfolding sanction
at_three rulebook kind r m known low high =
    let own : is_kind kind && is_rulebook rulebook ≡ true =
    and_yes (is_kind kind) (is_rulebook rulebook) (and_yes (leb 1 kind) (leb kind 3) (le-leb 1 kind low)
    (le-leb kind 3 high)) known in
    let member : ℕ = pick (eqb rulebook 1 && m) (by_three r 1 4 5 0) (by_three r 1 2 3 0) in
    ap (λ (s : ℕ). no_opening s)
    (sym (pick_no (eqb kind 5 && is_rulebook rulebook) member _ _
    (and_no (eqb kind 5) (is_rulebook rulebook) (ne_eqb kind 5 (λ e. omega arith)))
    (pick_no (not (is_kind kind && is_rulebook rulebook)) member _ _ (flip_no _ own) refl)))
    ∙ rungs (eqb rulebook 1 && m) r

pub third_rung : ThirdRung
third_rung shape rulebook known begin few kind r m low high =
    at_three rulebook kind r m known (omega (arith, begin)) (omega (arith, begin, few))

at_limit : (rulebook r : ℕ) (m : Bool) → is_rulebook rulebook ≡ true → no_opening (sanction rulebook 5 r m) ≡ eqb r 2
    || eqb r 3
unfolding sanction
at_limit rulebook r m known =
    ap (λ (s : ℕ). no_opening s) (sym (pick_yes (is_rulebook rulebook) (limit_sanction r) _ _ known refl)) ∙ limits r

only_five : (kinds : Kinds) (kind : ℕ) → kinds ≡ One → first_kind kinds ≤ kind
    → kind < first_kind kinds + kinds_in kinds → kind ≡ 5
unfolding first_kind kinds_in
only_five kinds kind e low high = let l = rw e at low in let h = rw e at high in omega arith

pub limit_rungs : LimitRungs
limit_rungs shape rulebook known one kind r m low high =
    ap (λ (k : ℕ). no_opening (sanction rulebook k r m)) (only_five shape.kinds kind one low high)
    ∙ at_limit rulebook r m known

-- ---- days of a shape and a rulebook, on a book from which nothing is carried
module _ (shape : Shape) (rulebook : ℕ) (hard : (kind rung' : ℕ) → Bool) (by : ByRung shape rulebook hard)
    (from : List ℕ) (y l : ℕ) (nothing : carried from y l ≡ 0) where
  abbrev kind : ℕ
  kind = kind_at shape.kinds l

  -- the offence day after n others comes to a rung that is one
  abbrev comes : ℕ → Bool
  comes n = hard kind (rung (n + 1))

  -- one more day of the year, an offence or not, on plain numbers
  one_day : (off m : Bool) (n k : ℕ) → k ≡ pick off 1 0 + n
      → pick (no_opening (pick off (sanction rulebook kind (rung k) m) 0)) 1 0 + count comes n ≡ count comes k
  unfolding pick
  one_day false m n k e = let same : k ≡ n = omega arith in omega (arith, ap (count comes) same)
  one_day true m n k e =
      let next : k ≡ n + 1 = omega arith in
      let is : no_opening (sanction rulebook kind (rung k) m) ≡ comes n =
      by kind (rung k) m (omega arith) (kind_low shape.kinds l) ∙ ap (λ (i : ℕ). hard kind (rung i)) next in
      omega (
        arith,
        count_more comes n,
        ap (count comes) next,
        ap (λ (t : Bool). pick {A = ℕ} t 1 0) is,
      )

  days_next : (d : WrittenDay) (days : List WrittenDay) (t : Bool) → eqb (year d.date) y ≡ t
      → offence_days y l (d ∷ days) ≡ pick (t && offence_on l d) 1 0 + offence_days y l days
  unfolding offence_days how_many
  days_next d days t e = rw e

  sanctions_next : (d : WrittenDay) (days : List WrittenDay) (t : Bool) → eqb (year d.date) y ≡ t
      → restrictions from y l (d ∷ days)
      ≡ pick (t && no_opening (sanction_on from l d days)) 1 0 + restrictions from y l days
  unfolding sanctions
  sanctions_next d days t e = rw e

  total_next : (d : WrittenDay) (days : List WrittenDay) → year d.date ≡ y
      → total_over from (year d.date) l (d ∷ days) ≡ pick (offence_on l d) 1 0 + offence_days y l days
  unfolding total_over
  total_next d days e = rw (e, nothing, zero-add) (days_next d days true (eq-eqb (year d.date) y e))

  sanction_next : (d : WrittenDay) (days : List WrittenDay) → Ours shape rulebook d
      → sanction_on from l d days
      ≡ pick (offence_on l d)
      (sanction rulebook kind (rung (total_over from (year d.date) l (d ∷ days)))
      (d.verdict.member (group_at shape.kinds l))) 0
  unfolding sanction_on
  sanction_next d days o = rw (o.shaped, o.ruled)

  -- one more day, of the year or not
  next_day : (d : WrittenDay) (days : List WrittenDay) (t : Bool) → eqb (year d.date) y ≡ t
      → Ours shape rulebook d
      → restrictions from y l days ≡ count comes (offence_days y l days)
      → restrictions from y l (d ∷ days) ≡ count comes (offence_days y l (d ∷ days))
  next_day d days true e o so =
      let total = total_next d days (eqb-true _ y e) in
      rw (sanctions_next d days true e, days_next d days true e, sanction_next d days o, so)
      (one_day (offence_on l d) (d.verdict.member (group_at shape.kinds l)) (offence_days y l days) _ total
      ∙ ap (count comes) total)
  next_day d days false e o so =
      rw (sanctions_next d days false e, days_next d days false e, so)
      (unfold pick in rw (zero-add (offence_days y l days)) (zero-add _))

  pub by_rungs : (days : List WrittenDay) → OfBook shape rulebook days
      → restrictions from y l days ≡ count comes (offence_days y l days)
  unfolding OfBook sanctions offence_days how_many count
  by_rungs [] o = refl
  by_rungs (d ∷ days) o = next_day d days (eqb (year d.date) y) refl o.0 (by_rungs days o.1)
