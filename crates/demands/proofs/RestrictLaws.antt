-- The opening restrictions of the desk's days are sanctions 3 and 5: no sanction of theirs is above 5.
-- Assumes nothing.
use mathlib.Core.Path.{◌≡◌, refl, ap₂, ◌∙◌, subst}
use mathlib.Core.Bool.{Bool, true, false, not, ◌&&◌, ◌||◌}
use mathlib.Core.List.{List, [], ◌∷◌}
use Prim.Native.Nat.{ℕ, ◌+◌, ◌≤◌, zero-le}
use native.Mathlib.Omega.{arith}
use borrow.Author.Tests.{ne_eqb}
use lib.Dec.{eqb}
use Rattle.wire.specs.Choice.{pick}
use Rattle.wire.proofs.ChoiceLaws.{pick_no, pick_le, and_no}
use Rattle.calendar.specs.Dates.{year}
use Rattle.rules.specs.Choices.{by_three}
use Rattle.rules.specs.Codes.{is_rulebook, is_kind}
use Rattle.rules.specs.Kinds.{most_kinds}
use Rattle.rules.specs.Ladders.{sanction, no_opening}
use Rattle.rules.proofs.KindLaws.{kinds_begin, kinds_most}
use Rattle.places.specs.Places.{kind_at}
use Rattle.places.proofs.LadderLaws.{kind_low}
use Rattle.book.specs.Shape.{day_shape}
use Rattle.years.specs.Restrictions.{sanction_on, sanctions}
use Rattle.desk.specs.Offences.{kinds_on, verdict_on}
use Rattle.demands.specs.Days.{PastDay, written, all_written}
use Rattle.demands.specs.Demand3.{ThreeOrFive}

three_low : (x first second third : ℕ) → first ≤ 5 → second ≤ 5 → third ≤ 5 → by_three x first second third 0 ≤ 5
unfolding by_three
three_low x first second third p q r = pick_le _ _ _ 5 p (pick_le _ _ _ 5 q (pick_le _ _ _ 5 r zero-le))

sanction_low : (rulebook kind r : ℕ) (m : Bool) → (kind ≡ 5 → ⊥) → sanction rulebook kind r m ≤ 5
unfolding sanction
sanction_low rulebook kind r m other =
    subst (λ (s : ℕ). s ≤ 5)
    (pick_no (eqb kind 5 && is_rulebook rulebook) _ _ _
    (and_no (eqb kind 5) (is_rulebook rulebook) (ne_eqb kind 5 other)) refl)
    (pick_le (not (is_kind kind && is_rulebook rulebook)) 0 _ 5 zero-le
    (pick_le (eqb rulebook 1 && m) _ _ 5 (three_low r 1 4 5 (omega arith) (omega arith) (omega arith))
    (three_low r 1 2 3 (omega arith) (omega arith) (omega arith))))

no_more : (three five : Bool) → three || five || false || false ≡ three || five
no_more true five = refl
no_more false true = refl
no_more false false = refl

either_is : (s : ℕ) → s ≤ 5 → no_opening s ≡ eqb s 3 || eqb s 5
either_is s h =
    ap₂ (λ (x y : Bool). eqb s 3 || eqb s 5 || x || y) (ne_eqb s 7 (λ e. omega arith)) (ne_eqb s 8 (λ e. omega arith))
    ∙ no_more (eqb s 3) (eqb s 5)

day_low : (from : List ℕ) (l : ℕ) (d : PastDay) (before : List PastDay)
    → sanction_on from l (written d) (all_written before) ≤ 5
unfolding sanction_on verdict_on day_shape most_kinds
day_low from l d before =
    let kinds = kinds_on d.tables in
    let few = kinds_most d.tables.text.rulebook in
    let begin = kinds_begin d.tables.text.rulebook in
    let other : kind_at kinds l ≡ 5 → ⊥ = λ e. omega (arith, e, kind_low kinds l, few, begin) in
    pick_le _ _ _ 5 (sanction_low d.tables.text.rulebook (kind_at kinds l) _ _ other) zero-le

pub three_or_five_lem : ThreeOrFive
unfolding sanctions
three_or_five_lem from y l [] = refl
three_or_five_lem from y l (d ∷ days) =
    ap₂ (λ (b : Bool) (n : ℕ). pick (eqb (year d.date) y && b) 1 0 + n)
    (either_is (sanction_on from l (written d) (all_written days)) (day_low from l d days))
    (three_or_five_lem from y l days)
