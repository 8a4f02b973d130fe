-- What a day's verdict says is what its records say, and a log without fault may go into a book that fits it. Assumes
-- nothing.
use mathlib.Core.Path.{◌≡◌, refl, sym, ap, ◌∙◌}
use mathlib.Core.Logic.{⊎_elim}
use mathlib.Core.Bool.{Bool, true, false, ◌&&◌}
use mathlib.Core.List.{List}
use Prim.Native.Nat.{ℕ, zero, suc, ◌≤◌, ◌<◌}
use native.Mathlib.Nat.{le_of_suc-le-suc, eq-or-lt_of_le, lt_of_not-le}
use native.Mathlib.Omega.{arith}
use borrow.Author.Tests.{ltb-true, leb-true, le-ltb}
use lib.Dec.{leb, ltb, eqb}
use Rattle.wire.specs.Choice.{pick, within}
use Rattle.wire.specs.Below.{first, some}
use Rattle.wire.proofs.ChoiceLaws.{pick_yes, pick_no, and_left, and_right, and_no, and_no_right}
use Rattle.wire.proofs.BelowLaws.{every_at, first_below, first_some, some_none}
use Rattle.rules.specs.declared.kinds.Kinds.TheVariants.{One}
use Rattle.rules.proofs.FamilyLaws.{family_one}
use Rattle.places.specs.Places.{group_at, family_at}
use Rattle.book.specs.Fits.{fits_fault}
use Rattle.daylog.specs.Header.{header_of}
use Rattle.verdict.specs.Verdict.{offends}
use Rattle.years.specs.Written.{Allowed}
use Rattle.positions.specs.declared.contracts.Limited.{Limited}
use Rattle.positions.specs.Books.{position_shape}
use Rattle.positions.specs.LimitEntries.{limit_count, limited_at, id_before, limited_good, limited_good_at, limits_good}
use Rattle.positions.specs.Log.{Positions, limits_part, positions_in, positions_of, log_fault}
use Rattle.positions.specs.Offences.{is_many, family_of, over_on, offence, lowest_on, verdict_on}
use Rattle.positions.proofs.FaultLaws.{front_sound, log_sound}
use Rattle.position_demands.specs.Demand2.{OffencesCounted, LowestId, log_day}

-- ---- an offence is one of the records
pub offences_counted : OffencesCounted
unfolding offends verdict_on lowest_on offence
offences_counted p ladder = go (is_many p (group_at One ladder)) refl
  where
    over : ℕ → Bool
    over = over_on p (group_at One ladder) (family_at ladder)

    many : Bool
    many = is_many p (group_at One ladder)

    go : (t : Bool) → many ≡ t
        → ltb (pick many (first over p.contracts) p.contracts) p.contracts ≡ many && some over p.contracts
    go true e =
        ap (λ (n : ℕ). ltb n p.contracts) (sym (pick_yes _ _ _ _ e refl)) ∙ first_some over p.contracts
        ∙ ap (λ (t : Bool). t && some over p.contracts) (sym e)
    go false e =
        ap (λ (n : ℕ). ltb n p.contracts) (sym (pick_no _ _ _ _ e refl))
        ∙ le-ltb p.contracts p.contracts (omega arith)
        ∙ sym (and_no many _ e)

-- in rulebook 1 there is no offence in families 2 to 15
none_offends : (p : Positions) (l : ℕ) → eqb p.text.rulebook 1 && leb 2 (family_at l) ≡ true
    → offends (verdict_on p) l ≡ false
unfolding offence over_on family_of
none_offends p l e =
    let one = and_left (eqb p.text.rulebook 1) (leb 2 (family_at l)) e in
    let low = leb-true 2 (family_at l) (and_right (eqb p.text.rulebook 1) (leb 2 (family_at l)) e) in
    offences_counted p l
    ∙ and_no_right (is_many p (group_at One l)) _
    (some_none _ p.contracts
    (λ k. and_no _ _ (family_one p.text (p.contract k).sort (p.contract k).product (family_at l) one low
    (omega arith))))

-- ---- a log without fault, on a book that fits it
pub allowed : (log book : List ℕ) → log_fault log ≡ 0
    → fits_fault position_shape (header_of log).rulebook (header_of log).date book ≡ 0
    → Allowed position_shape book (log_day log)
unfolding verdict_on positions_of positions_in
allowed log book fine fit = record {
  shaped = refl;
  fits = fit;
  real = (front_sound log (log_sound log fine).0).date;
  none = none_offends (positions_of log);
}

-- ---- contracts stand by rising id, so the lowest place is the lowest id
id_above : (before : ℕ) (e : Limited) → limited_good before e ≡ true → before < e.id
id_above before e h =
    let rises = ltb before e.id in
    let type = eqb e.sort 1 in
    let product = leb e.product 15 in
    let today = within 1 1000000000 e.today.0 in
    let previous = within 1 1000000000 e.previous.0 in
    ltb-true before e.id
    (and_left rises type (and_left (rises && type) product (and_left (rises && type && product) today
    (and_left (rises && type && product && today) previous
    (and_left (rises && type && product && today && previous) (eqb e.spare 0) h)))))

module _ (s : List ℕ) (good : limits_good s ≡ true) where
  above : (k : ℕ) → k < limit_count s → id_before s k < (limited_at s k).id
  unfolding limits_good
  above k l = id_above (id_before s k) (limited_at s k) (every_at (limited_good_at s) (limit_count s) k good l)

  rising : (j k : ℕ) → j ≤ k → k < limit_count s → (limited_at s j).id ≤ (limited_at s k).id
  unfolding id_before
  rising j zero h l = let e : j ≡ 0 = omega arith in rw e (omega arith)
  rising j (suc k) h l =
      ⊎_elim (λ (e : j ≡ suc k). rw e (omega arith))
      (λ (m : j < suc k). omega (arith, rising j k (le_of_suc-le-suc m) (omega arith), above (suc k) l))
      (eq-or-lt_of_le h)

ids_rise : (log : List ℕ) → log_fault log ≡ 0 → (j k : ℕ) → j ≤ k → k < (positions_of log).contracts
    → ((positions_of log).contract j).id ≤ ((positions_of log).contract k).id
unfolding positions_of positions_in
ids_rise log e = rising (limits_part (header_of log) log) (front_sound log (log_sound log e).0).limits

-- a group that offends has two accounts or more: its lowest place is the first that is over
lowest_first : (p : Positions) (l : ℕ) → offence p (group_at One l) (family_at l) ≡ true
    → lowest_on p l ≡ first (over_on p (group_at One l) (family_at l)) p.contracts
unfolding lowest_on offence
lowest_first p l o = sym (pick_yes _ _ _ _ (and_left (is_many p (group_at One l)) _ o) refl)

pub lowest_id : LowestId
lowest_id log ladder place e hit there lower =
    let p = positions_of log in
    let over = over_on p (group_at One ladder) (family_at ladder) in
    let before : place < lowest_on p ladder =
    lt_of_not-le
    (λ (l : lowest_on p ladder ≤ place). omega (arith, ids_rise log e (lowest_on p ladder) place l there)) in
    first_below over p.contracts place
    (omega (arith, lowest_first p ladder (sym (offences_counted p ladder) ∙ hit)))
