-- Days and the same days with two groups joined: what their books say is the same but for the two groups, and nothing
-- is lost. Assumes nothing.
use mathlib.Core.Path.{◌≡◌, refl, sym, ap, ap₂, ◌∙◌, subst}
use mathlib.Core.Logic.{◌⊎◌, inl, inr}
use mathlib.Core.Bool.{Bool, true, false, not, ◌&&◌}
use mathlib.Core.List.{List, ◌∷◌, []}
use Prim.Native.Nat.{ℕ, ◌+◌, ◌≤◌, ◌<◌, zero-le}
use native.Mathlib.Omega.{arith}
use lib.Dec.{leb, ltb, eqb}
use lib.ListN.{length}
use Rattle.wire.specs.Choice.{pick}
use Rattle.wire.specs.Below.{count}
use Rattle.wire.proofs.ChoiceLaws.{pick_no, and_no_right}
use Rattle.wire.proofs.BelowLaws.{count_up}
use Rattle.calendar.specs.Dates.{year}
use Rattle.rules.specs.Ladders.{rung, sanction}
use Rattle.places.specs.Places.{ladders, ladder_of, group_at, kind_at, HasLadder}
use Rattle.places.proofs.LadderLaws.{ladder_there, kind_of}
use Rattle.book.specs.declared.shape.Shape.{Shape}
use Rattle.book.specs.Shape.{rulebook_of}
use Rattle.book.specs.Layout.{last_date, total_at}
use Rattle.book.specs.Sound.{sound_as}
use Rattle.book.specs.Fits.{fits_fault}
use Rattle.book.proofs.BookLaws.{sound_facts}
use Rattle.posting.specs.Raise.{later_year, next_total}
use Rattle.verdict.specs.Verdict.{Verdict, offends, finding, total_after, sanction_at, found_at}
use Rattle.years.specs.Days.{how_many, WrittenDay, offence_on, offence_days, last_on, carried, total_over}
use Rattle.years.specs.Written.{Allowed, Written, more as one_more_day}
use Rattle.years.specs.Restrictions.{ByRung}
use Rattle.years.specs.Joined.{Two, Other, VerdictJoined, SameDay, SameDays, none, more, DayJoined, DaysJoined}
use Rattle.years.specs.Joined.{none as none_joined, more as more_joined, NoFewer}
use Rattle.years.specs.Laws.{NothingLost}
use Rattle.years.proofs.TotalLaws.{Ours, OfBook, Kept, kept}
use Rattle.years.proofs.RestrictLaws.{by_rungs}

-- ---- the last day written, and the book that the days before it leave
record LastDay (shape : Shape) (from : List ℕ) (d : WrittenDay) (days : List WrittenDay) : Type 0 where
  book : List ℕ
  allowed : Allowed shape book d
  written : Written shape from days book

last_day : {shape : Shape} {from : List ℕ} {d : WrittenDay} {days : List WrittenDay} {book : List ℕ}
    → Written shape from (d ∷ days) book → LastDay shape from d days
last_day (one_more_day {book = book} m w) = record { book = book; allowed = m; written = w }

-- ---- what a ladder adds to the findings, by all that it goes by
module _ (l : ℕ) where
  abbrev found : Shape → (rulebook contracts low id : ℕ) → (member later : Bool) → (total : ℕ) → List ℕ
  found shape rulebook contracts low id member later total =
      let after = next_total later (ltb low contracts) total in
      pick (ltb low contracts)
      (finding shape.kinds l (sanction rulebook (kind_at shape.kinds l) (rung after) member) after id) []

  found_is : (v : Verdict) (date : ℕ) (book : List ℕ)
      → found_at v date book l
      ≡ found v.shape v.rulebook v.contracts (v.lowest l) (v.id (v.lowest l))
      (v.member (group_at v.shape.kinds l)) (later_year book date) (total_at book l)
  unfolding found_at sanction_at total_after offends
  found_is v date book = refl

  found_same : {s s' : Shape} {r r' c c' k k' i i' n n' : ℕ} {m m' y y' : Bool} → s' ≡ s → r' ≡ r → c' ≡ c → k' ≡ k
      → i' ≡ i
      → m' ≡ m → y' ≡ y → n' ≡ n → found s' r' c' k' i' m' y' n' ≡ found s r c k i m y n
  found_same es er ec ek ei em ey en = rw (es, er, ec, ek, ei, em, ey, en)

-- ---- a day's verdict, and the joined one
module _ {a b : ℕ} {v v' : Verdict} (j : VerdictJoined a b v v') (l : ℕ) (less : l < ladders v.shape.kinds) where
  -- another group
  module _ (o : Other a b (group_at v.shape.kinds l)) where
    offends_other : offends v' l ≡ offends v l
    unfolding offends
    offends_other = ap₂ ltb (j.lowest l less o) j.contracts

    found_other : (date : ℕ) (book book' : List ℕ) → last_date book' ≡ last_date book → total_at book' l
        ≡ total_at book l
        → found_at v' date book' l ≡ found_at v date book l
    found_other date book book' same-date same_total =
        found_is l v' date book'
        ∙ found_same l j.shape j.rulebook j.contracts (j.lowest l less o) (j.id l less o)
        (ap (λ (s : Shape). v'.member (group_at s.kinds l)) j.shape ∙ j.member l less o)
        (ap (λ (d : ℕ). ltb (year d) (year date)) same-date) same_total
        ∙ sym (found_is l v date book)

  -- the group that is no more
  found_none : group_at v.shape.kinds l ≡ a → (date : ℕ) (book : List ℕ) → found_at v' date book l ≡ []
  unfolding found_at
  found_none is-a date book = sym (pick_no _ _ _ _ (j.none_left l less is-a) refl)

-- ---- the days, on a book of a shape
last_same : {a b : ℕ} (from : List ℕ) {days days' : List WrittenDay} → SameDays a b days days'
    → last_on from days' ≡ last_on from days
unfolding last_on
last_same from none = refl
last_same from (more j rest) = j.date

-- a ladder whose offences stay has no fewer days
pick_more : (t o o' : Bool) → (o ≡ true → o' ≡ true) → pick (t && o) 1 0 ≤ pick (t && o') 1 0
unfolding pick
pick_more false o o' h = zero-le
pick_more true false o' h = zero-le
pick_more true true o' h = let e : o' ≡ true = h refl in rw e (omega arith)

module _ {a b : ℕ} {shape : Shape} {rulebook : ℕ} (y l : ℕ) where
  days_more : (l' : ℕ)
      → ((d d' : WrittenDay) → Ours shape rulebook d → SameDay a b d d' → offence_on l d ≡ true
      → offence_on l' d' ≡ true)
      → {days days' : List WrittenDay} → OfBook shape rulebook days → SameDays a b days days'
      → offence_days y l days ≤ offence_days y l' days'
  unfolding offence_days how_many OfBook
  days_more l' h o none = zero-le
  days_more l' h o (more {d} {d'} j rest) =
      let q : eqb (year d'.date) y ≡ eqb (year d.date) y = ap (λ (n : ℕ). eqb (year n) y) j.date in
      let m : pick (eqb (year d.date) y && offence_on l d) 1 0 ≤ pick (eqb (year d'.date) y && offence_on l' d') 1
      0 =
      rw q (pick_more (eqb (year d.date) y) (offence_on l d) (offence_on l' d') (h d d' o.0 j)) in
      omega (arith, days_more l' h o.1 rest)

  -- a ladder with no offence after the join has no offence day
  days_none : ((d d' : WrittenDay) → Ours shape rulebook d → SameDay a b d d' → offence_on l d' ≡ false)
      → {days days' : List WrittenDay} → OfBook shape rulebook days → SameDays a b days days'
      → offence_days y l days' ≡ 0
  unfolding offence_days how_many OfBook
  days_none h o none = refl
  days_none h o (more {d} {d'} j rest) =
      let q : ◌≡◌ {A = ℕ} (pick (eqb (year d'.date) y && offence_on l d') 1 0) 0 =
      sym (pick_no _ _ _ _ (and_no_right (eqb (year d'.date) y) (offence_on l d') (h d d' o.0 j)) refl) in
      omega (arith, days_none h o.1 rest)

  -- and one on which each day is the same has as many
  days_other : ((d d' : WrittenDay) → Ours shape rulebook d → SameDay a b d d' → offence_on l d' ≡ offence_on l d)
      → {days days' : List WrittenDay} → OfBook shape rulebook days → SameDays a b days days'
      → offence_days y l days' ≡ offence_days y l days
  unfolding offence_days how_many OfBook
  days_other h o none = refl
  days_other h o (more {d} {d'} j rest) =
      ap₂ (λ (x n : ℕ). x + n)
      (ap₂ (λ (m : ℕ) (t : Bool). pick (eqb (year m) y && t) 1 0) j.date (h d d' o.0 j))
      (days_other h o.1 rest)

-- ---- what the two books say alike
module _ {a b : ℕ} {shape : Shape} {from book book' : List ℕ} {days days' : List WrittenDay}
    (k : Kept shape from days book) (k' : Kept shape from days' book') (s : SameDays a b days days') where
  pub dates_same : last_date book' ≡ last_date book
  dates_same = k'.last ∙ last_same from s ∙ sym k.last

  pub rulebook_same : rulebook_of book' ≡ rulebook_of book
  rulebook_same = k'.rulebook ∙ sym k.rulebook

  pub lengths_same : length book' ≡ length book
  lengths_same = (sound_facts shape book' k'.good).long ∙ sym (sound_facts shape book k.good).long

  -- a book that lets a day in, or refuses it with a number, does so in both
  pub fits_same : (rulebook date : ℕ) → fits_fault shape rulebook date book' ≡ fits_fault shape rulebook date book
  unfolding fits_fault
  fits_same rulebook date =
      let f : Bool → ℕ → ℕ → ℕ = λ s r d. pick (not s) 17 (pick (not (eqb r rulebook)) 18 (pick (leb date d) 9 0)) in
      ap (λ (t : Bool). f t (rulebook_of book') (last_date book')) (k'.good ∙ sym k.good)
      ∙ ap₂ (f (sound_as shape book)) rulebook_same dates_same

  -- ---- where nothing was carried each total is the number of offence days in one year, the same for both
  module _ (nothing : (y l : ℕ) → l < ladders shape.kinds → carried from y l ≡ 0) where
    abbrev last_year : ℕ
    last_year = year (last_on from days)

    total_days : (l : ℕ) → l < ladders shape.kinds → total_at book l ≡ offence_days last_year l days
    unfolding total_over
    total_days l less = omega (arith, k.total l less, nothing last_year l less)

    joined_days : (l : ℕ) → l < ladders shape.kinds → total_at book' l ≡ offence_days last_year l days'
    unfolding total_over
    joined_days l less =
        let e = k'.total l less ∙ ap (λ (n : ℕ). total_over from (year n) l days') (last_same from s) in
        omega (arith, e, nothing last_year l less)

    total_same : (l : ℕ) → l < ladders shape.kinds → Other a b (group_at shape.kinds l)
        → total_at book' l ≡ total_at book l
    unfolding offence_on
    total_same l less o =
        joined_days l less ∙ days_other last_year l same_day k.ours s ∙ sym (total_days l less)
      where
        same_day : (d d' : WrittenDay) → Ours shape (rulebook_of from) d → SameDay a b d d'
            → offence_on l d' ≡ offence_on l d
        same_day d d' own j =
            offends_other j.verdict l (subst (λ (x : Shape). l < ladders x.kinds) (sym own.shaped) less)
            (subst (λ (x : Shape). Other a b (group_at x.kinds l)) (sym own.shaped) o)

    total_gone : (l : ℕ) → l < ladders shape.kinds → group_at shape.kinds l ≡ a → total_at book' l ≡ 0
    unfolding offence_on
    total_gone l less is-a = joined_days l less ∙ days_none last_year l none_left k.ours s
      where
        none_left : (d d' : WrittenDay) → Ours shape (rulebook_of from) d → SameDay a b d d' → offence_on l d' ≡ false
        none_left d d' own j =
            j.verdict.none_left l (subst (λ (x : Shape). l < ladders x.kinds) (sym own.shaped) less)
            (subst (λ (x : Shape). group_at x.kinds l ≡ a) (sym own.shaped) is-a)

-- ---- nothing is lost
module _ (a b : ℕ) (two : Two a b) (shape : Shape) (from : List ℕ) (hard : (kind rung' : ℕ) → Bool)
    (by : ByRung shape (rulebook_of from) hard)
    (nothing : (y l : ℕ) → l < ladders shape.kinds → carried from y l ≡ 0) where
  -- what a day finds, on the books of the days before it
  day_joined : {book book' : List ℕ} {days days' : List WrittenDay} {d d' : WrittenDay} → Kept shape from days book
      → Kept shape from days' book' → SameDays a b days days' → d.verdict.shape ≡ shape → SameDay a b d d'
      → DayJoined a b shape from d d' days days'
  day_joined {book} {book'} {days} {days'} {d} {d'} k k' s own j =
      let v = d.verdict in
      let v' = d'.verdict in
      let there : (l : ℕ) → l < ladders shape.kinds → l < ladders v.shape.kinds =
      λ l less. subst (λ (x : Shape). l < ladders x.kinds) (sym own) less in record {
        shaped = own;
        same = j;
        others =
            λ l less o.
            ap₂ (λ (n : ℕ) (x : List ℕ). found_at v' n x l) j.date (sym k'.is)
            ∙ found_other j.verdict l (there l less)
            (subst (λ (x : Shape). Other a b (group_at x.kinds l)) (sym own) o) d.date book book'
            (dates_same k k' s) (total_same k k' s nothing l less o)
            ∙ ap (λ (x : List ℕ). found_at v d.date x l) k.is;
        gone =
            λ l less is-a.
            found_none j.verdict l (there l less)
            (subst (λ (x : Shape). group_at x.kinds l ≡ a) (sym own) is-a) _ _;
      }

  days_joined : {days days' : List WrittenDay} {book book' : List ℕ} → Written shape from days book
      → Written shape from days' book' → SameDays a b days days' → DaysJoined a b shape from days days'
  days_joined w w' none = none_joined
  days_joined w w' (more j s) =
      let l = last_day w in
      let l' = last_day w' in
      more_joined (day_joined (kept l.written) (kept l'.written) s l.allowed.shaped j)
      (days_joined l.written l'.written s)

  -- group g's offences of a kind in a family stay as b's: then b has no fewer days, and so no fewer restrictions
  module _ {book book' : List ℕ} {days days' : List WrittenDay} (k : Kept shape from days book)
      (k' : Kept shape from days' book') (s : SameDays a b days days') (kind family : ℕ) where
    no_fewer : (g : ℕ) → HasLadder shape.kinds g kind family → HasLadder shape.kinds b kind family
        → ((v : Verdict) → offends v (ladder_of v.shape.kinds g kind family) ≡ true
        → (offends v (ladder_of v.shape.kinds a kind family) ≡ true)
        ⊎ (offends v (ladder_of v.shape.kinds b kind family) ≡ true))
        → NoFewer shape g b from book book' days days' kind family
    unfolding offence_on
    no_fewer g i i-b which =
        let kinds = shape.kinds in
        let lg = ladder_of kinds g kind family in
        let lb = ladder_of kinds b kind family in
        let there = ladder_there kinds g kind family i.row i.last_family in
        let there-b = ladder_there kinds b kind family i-b.row i-b.last_family in
        let same_kind : kind_at kinds lg ≡ kind_at kinds lb =
        kind_of kinds g kind family i.row i.last_family
        ∙ sym (kind_of kinds b kind family i-b.row i-b.last_family) in
        let more-days : (y : ℕ) → offence_days y lg days ≤ offence_days y lb days' =
        λ y. days_more y lg lb stay k.ours s in record {
          totals =
              rw (total_days k k' s nothing lg there, joined_days k k' s nothing lb there-b)
              (more-days (year (last_on from days)));
          restricted =
              λ y.
              rw (
                by_rungs shape (rulebook_of from) hard by from y lg (nothing y lg there) days k.ours
                    ∙ ap (λ (j : ℕ). count (λ n. hard j (rung (n + 1))) (offence_days y lg days)) same_kind,
                by_rungs shape (rulebook_of from) hard by from y lb (nothing y lb there-b) days' k'.ours,
              )
              (count_up (λ n. hard (kind_at kinds lb) (rung (n + 1))) _ _ (more-days y));
        }
      where
        stay : (d d' : WrittenDay) → Ours shape (rulebook_of from) d → SameDay a b d d'
            → offence_on (ladder_of shape.kinds g kind family) d ≡ true
            → offence_on (ladder_of shape.kinds b kind family) d' ≡ true
        stay d d' own j =
            subst
            (λ (x : Shape). HasLadder x.kinds b kind family
            → offends d.verdict (ladder_of x.kinds g kind family) ≡ true
            → offends d'.verdict (ladder_of x.kinds b kind family) ≡ true)
            own.shaped (λ h o. j.verdict.stays kind family h (which d.verdict o)) i-b

  -- b has the same ladders as any group
  ladder_b : (g kind family : ℕ) → HasLadder shape.kinds g kind family → HasLadder shape.kinds b kind family
  ladder_b g kind family i = record {
    row = record {
      first_group = two.first_b;
      last_group = two.last_b;
      least_kind = i.row.least_kind;
      last_kind = i.row.last_kind;
    };
    last_family = i.last_family;
  }

pub nothing_lost : NothingLost
nothing_lost a b two shape from book book' days days' hard by nothing w w' s =
    let k = kept w in
    let k' = kept w' in record {
      each = days_joined a b two shape from hard by nothing w w' s;
      than_a =
          λ kind family i.
          no_fewer a b two shape from hard by nothing k k' s kind family a i
          (ladder_b a b two shape from hard by nothing a kind family i) (λ v o. inl o);
      than_b =
          λ kind family i. no_fewer a b two shape from hard by nothing k k' s kind family b i i (λ v o. inr o);
      others = total_same k k' s nothing;
      gone = total_gone k k' s nothing;
    }
