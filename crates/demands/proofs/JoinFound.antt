-- What a joined day's end goes by: the offences of the two groups stay as those of one, and all else is as it was.
-- Assumes nothing.
use mathlib.Core.Path.{◌≡◌, refl, sym, ap, ap₂, ◌∙◌}
use mathlib.Core.Logic.{◌⊎◌, inl, inr}
use mathlib.Core.Bool.{Bool, true, false, ◌&&◌}
use mathlib.Core.List.{List}
use Prim.Native.Nat.{ℕ}
use lib.Dec.{eqb}
use Rattle.wire.specs.Below.{first}
use Rattle.wire.proofs.BelowLaws.{first_cong}
use Rattle.rules.specs.declared.kinds.Kinds.{Kinds}
use Rattle.rules.specs.declared.text.Text.{Text}
use Rattle.rules.specs.Kinds.{kinds_of}
use Rattle.rules.specs.Measure.{times, enough, reached}
use Rattle.book.specs.Shape.{day_shape}
use Rattle.places.specs.Places.{ladder_of, group_at, kind_at, family_at, HasLadder}
use Rattle.places.proofs.LadderLaws.{group_of, kind_of, family_of_lem}
use Rattle.daylog.specs.declared.record.Record.{Record}
use Rattle.tables.specs.Tables.{Tables, member_on}
use Rattle.verdict.specs.Verdict.{offends}
use Rattle.years.specs.Joined.{Two, Other, VerdictJoined}
use Rattle.desk.specs.Offences.{kinds_on, family_of, reached_at, lowest, lowest_on, verdict_on}
use Rattle.demands.specs.Counts.{times_of, times_on, offence, day_verdict}
use Rattle.demands.specs.Join.{Joined}
use Rattle.demands.proofs.ListedLaws.{offends_is}
use Rattle.demands.proofs.JoinCounts.{times_other, offence_a, offence_b, offence_none, members_other}
use Rattle.demands.proofs.JoinCounts.{family_joined}

-- a joined day has the kinds of the day
pub kinds_joined : {a b : ℕ} {t t' : Tables} → Joined a b t t' → kinds_on t' ≡ kinds_on t
kinds_joined j = ap (λ (x : Text). kinds_of x.rulebook) j.text

-- an offence on a ladder, by the kinds of the day's rulebook, and by its group, kind and family
offends_by : (t : Tables) (rs : List Record) (kinds : Kinds) (l : ℕ) → kinds_on t ≡ kinds
    → offends (day_verdict t rs) l ≡ offence t rs (group_at kinds l) (kind_at kinds l) (family_at l)
offends_by t rs kinds l e =
    offends_is t rs l ∙ ap (λ (k : Kinds). offence t rs (group_at k l) (kind_at k l) (family_at l)) e

offends_on : (t : Tables) (rs : List Record) (kinds : Kinds) → kinds_on t ≡ kinds → (g k f : ℕ) → HasLadder kinds g k f
    → offends (day_verdict t rs) (ladder_of kinds g k f) ≡ offence t rs g k f
offends_on t rs kinds e g k f i =
    let l = ladder_of kinds g k f in
    offends_by t rs kinds l e
    ∙ ap₂ (λ (x y : ℕ). offence t rs x y (family_at l)) (group_of kinds g k f i.row i.last_family)
    (kind_of kinds g k f i.row i.last_family)
    ∙ ap (offence t rs g k) (family_of_lem kinds g k f i.last_family)

module _ (a b : ℕ) (two : Two a b) (t t' : Tables) (j : Joined a b t t') (rs : List Record) where
  -- ---- the two groups
  ladder_a : (kind family : ℕ) → HasLadder (kinds_on t) b kind family → HasLadder (kinds_on t) a kind family
  ladder_a kind family i = record {
    row = record {
      first_group = two.first_a;
      last_group = two.last_a;
      least_kind = i.row.least_kind;
      last_kind = i.row.last_kind;
    };
    last_family = i.last_family;
  }

  pub offence_stays : (kind family : ℕ) → (offence t rs a kind family ≡ true) ⊎ (offence t rs b kind family ≡ true)
      → offence t' rs b kind family ≡ true
  offence_stays kind family (inl o) = offence_a a b t t' j two.first_a two.differ rs kind family o
  offence_stays kind family (inr o) = offence_b a b t t' j two.first_a two.differ rs kind family o

  stays : (kind family : ℕ) → HasLadder (kinds_on t) b kind family
      → (offends (day_verdict t rs) (ladder_of (kinds_on t) a kind family) ≡ true)
      ⊎ (offends (day_verdict t rs) (ladder_of (kinds_on t) b kind family) ≡ true)
      → offends (day_verdict t' rs) (ladder_of (kinds_on t) b kind family) ≡ true
  stays kind family i o =
      offends_on t' rs (kinds_on t) (kinds_joined j) b kind family i ∙ offence_stays kind family (before o)
    where
      before : (offends (day_verdict t rs) (ladder_of (kinds_on t) a kind family) ≡ true)
          ⊎ (offends (day_verdict t rs) (ladder_of (kinds_on t) b kind family) ≡ true)
          → (offence t rs a kind family ≡ true) ⊎ (offence t rs b kind family ≡ true)
      before (inl e) =
          inl (sym (offends_on t rs (kinds_on t) refl a kind family (ladder_a kind family i)) ∙ e)
      before (inr e) = inr (sym (offends_on t rs (kinds_on t) refl b kind family i) ∙ e)

  none_left : (l : ℕ) → group_at (kinds_on t) l ≡ a → offends (day_verdict t' rs) l ≡ false
  none_left l is-a =
      offends_by t' rs (kinds_on t) l (kinds_joined j)
      ∙ ap (λ (g : ℕ). offence t' rs g (kind_at (kinds_on t) l) (family_at l)) is-a
      ∙ offence_none a b t t' j two.first_a two.differ rs (kind_at (kinds_on t) l) (family_at l)

  -- ---- another group, on a ladder of its own
  module _ (l : ℕ) (o : Other a b (group_at (kinds_on t) l)) where
    -- the ladder's group and kind by a text: the two days have one
    abbrev group_by : Text → ℕ
    group_by text = group_at (kinds_of text.rulebook) l

    abbrev kind_by : Text → ℕ
    kind_by text = kind_at (kinds_of text.rulebook) l

    times_same : (place : ℕ) → times_on t' rs l place ≡ times_on t rs l place
    unfolding times_on
    times_same place =
        ap (λ (x : Text). times_of t' rs (group_by x) (kind_by x) place) j.text
        ∙ times_other a b t t' j two.first_a two.differ rs (group_by t.text) (kind_by t.text) place
        o.not_a o.not_b

    abbrev test : (family n : ℕ) → Text → Bool
    test family n text = eqb family (family_at l) && reached (times n) (enough text (kind_by text))

    lowest_same : lowest_on t' (times_on t' rs) l ≡ lowest_on t (times_on t rs) l
    unfolding lowest_on lowest reached_at
    lowest_same =
        ap (first (λ k. test (family_of t' k) (times_on t' rs l k) t'.text)) j.contracts
        ∙ first_cong _ _ t.contracts
        (λ k h. ap₂ (λ (f n : ℕ). test f n t'.text) (family_joined a b t t' j two.first_a two.differ k)
        (times_same k)
        ∙ ap (test (family_of t k) (times_on t rs l k)) j.text)

    member_same : member_on t' (group_at (kinds_on t) l) ≡ member_on t (group_at (kinds_on t) l)
    member_same = members_other a b t t' j two.first_a two.differ (group_by t.text) o.not_a o.not_b

    id_same : (t'.contract (lowest_on t' (times_on t' rs) l)).id ≡ (t.contract (lowest_on t (times_on t rs) l)).id
    id_same = ap (λ (k : ℕ). (t'.contract k).id) lowest_same ∙ ap (λ e. e.id)
        (j.contract (lowest_on t (times_on t rs) l))

  pub verdict_joined : VerdictJoined a b (day_verdict t rs) (day_verdict t' rs)
  unfolding verdict_on day_shape
  verdict_joined = record {
    shape = ap (λ (x : Text). day_shape x.rulebook) j.text;
    rulebook = ap (λ (x : Text). x.rulebook) j.text;
    contracts = j.contracts;
    stays = stays;
    lowest = λ l less o. lowest_same l o;
    id = λ l less o. id_same l o;
    member = λ l less o. member_same l o;
    none_left = λ l less is-a. none_left l is-a;
  }
