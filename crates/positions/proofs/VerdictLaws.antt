-- A day's verdict as bytes, by sums kept in cells, is the day's verdict by its records. Assumes nothing.
use mathlib.Core.Path.{◌≡◌, refl, sym, ap, ap₂, ◌∙◌, subst}
use mathlib.Core.Bool.{Bool, true, false, ◌&&◌}
use mathlib.Core.List.{List, []}
use Prim.Native.Nat.{ℕ, ◌+◌, ◌*◌, ◌/◌, ◌<◌, ◌≤◌}
use native.Mathlib.Omega.{arith}
use borrow.Author.Tests.{ltb-true, leb-true, leb-false, lt-ltb, le-ltb}
use lib.Dec.{leb, ltb, eqb}
use lib.ListN.{length, get_or, drop, length-take}
use lib.Seq.{get_or-drop}
use Rattle.wire.specs.Choice.{pick}
use Rattle.wire.specs.Below.{first}
use Rattle.wire.specs.Bytes.{le, bytes}
use Rattle.wire.proofs.ChoiceLaws.{pick_yes, pick_no, and_left, and_right}
use Rattle.wire.proofs.BelowLaws.{every_at, count_sum, sum_cong, first_cong}
use Rattle.wire.proofs.ByteLaws.{bytes_length, pair_low}
use Rattle.wire.proofs.BufferLaws.{ones_at, ones_length, pair_at, rows_length}
use Rattle.wire.proofs.PartLaws.{there, low_take}
use Rattle.rules.specs.declared.text.Text.{Text}
use Rattle.rules.specs.declared.measure.Lots.{Lots}
use Rattle.rules.specs.declared.kinds.Kinds.TheVariants.{One}
use Rattle.rules.specs.Kinds.{kinds_in, first_kind}
use Rattle.tables.specs.Entries.{entries}
use Rattle.tables.specs.Accounts.{account_at, accounts_good, account_place, is_in, group_in, group_size}
use Rattle.tables.proofs.EntryLaws.{group_at_lem}
use Rattle.places.specs.Places.{ladders, cells, cell_of, group_at, kind_at, family_at, HasRow, HasCell}
use Rattle.places.proofs.LadderLaws.{row_at, ladder_cell, cell_test, cell_there}
use Rattle.posting.specs.Raise.{place_in}
use Rattle.verdict.specs.Verdict.{verdict_in}
use Rattle.verdict.proofs.SameVerdict.{Same}
use Rattle.daylog.specs.declared.header.Header.{Header}
use Rattle.daylog.specs.Header.{header_of, text_of}
use Rattle.positions.specs.declared.records.Position.{Position}
use Rattle.positions.specs.Books.{position_shape}
use Rattle.positions.specs.LimitEntries.{limit_count, limited_at, limit_place}
use Rattle.positions.specs.Records.{record_count, position_at, contract_before, account_before, fields_good, good_at}
use Rattle.positions.specs.Records.{records_good}
use Rattle.positions.specs.Log.{limits_part, accounts_part, records_part, Positions, positions_in, positions_of}
use Rattle.positions.specs.Offences.{group_on, place_on, is_of, held_of, over_either, is_many, family_of, over_on}
use Rattle.positions.specs.Offences.{lowest_on, verdict_on}
use Rattle.positions.specs.Judge.{log_verdict}
use Rattle.positions.specs.Way.{sizes_in, cell_at, side_to, long_to, short_to, family_in, families_in, ids_in}
use Rattle.positions.specs.Way.{over_at, place_at, places_in, log_places}
use Rattle.positions.specs.GoodPositions.{GoodPositions}
use Rattle.positions.proofs.SumLaws.{summed_at}

-- a single kind is 5
five : (l : ℕ) → kind_at One l ≡ 5
unfolding kinds_in first_kind
five l = omega arith

module _ (text : Text) (contracts accounts records : List ℕ) (few : limit_count contracts ≤ 32)
    (good : accounts_good accounts ≡ true) (all : records_good contracts accounts records ≡ true) where
  abbrev day : Positions
  day = positions_in text contracts accounts records

  -- ---- the sizes of the groups
  size_is : (g : ℕ) → g < 129 → get_or (sizes_in accounts) g 0 ≡ group_size day.account day.accounts g
  unfolding sizes_in group_size positions_in
  size_is g h =
      summed_at 129 (λ k. (account_at accounts k).group) (λ k. 1) (entries accounts) g h
      ∙ count_sum (λ k. eqb (account_at accounts k).group g) (entries accounts)

  -- ---- the sums
  -- a record of the log has its contract and its account there
  known : (k : ℕ) → k < record_count records →
      let r = position_at records k in
      (limit_place (limited_at contracts) (limit_count contracts) r.contract < limit_count contracts)
      × (is_in (account_at accounts) (entries accounts) r.account ≡ true)
  unfolding records_good good_at
  known k h =
      let r = position_at records k in
      let f = fields_good (contract_before records k) (account_before records k) r in
      let c = ltb (limit_place (limited_at contracts) (limit_count contracts) r.contract) (limit_count contracts) in
      let a = is_in (account_at accounts) (entries accounts) r.account in
      let t : f && c && a ≡ true = every_at (good_at contracts accounts records) (record_count records) k all h in
      (ltb-true _ _ (and_right f c (and_left (f && c) a t)), and_right (f && c) a t)

  -- and so a cell
  has_cell : (k : ℕ) → k < record_count records →
      let r = position_at records k in
      HasCell One (group_in (account_at accounts) (entries accounts) r.account) 5
      (limit_place (limited_at contracts) (limit_count contracts) r.contract)
  unfolding group_in is_in kinds_in first_kind
  has_cell k h =
      let r = position_at records k in
      let q = known k h in
      let place = account_place (account_at accounts) (entries accounts) r.account in
      let bounds = group_at_lem accounts good place (ltb-true _ _ q.1) in
      let e = pick_yes _ (account_at accounts place).group _ 0 q.1 refl in record {
        row = record {
          first_group = omega (arith, bounds.0, e);
          last_group = omega (arith, bounds.1, e);
          least_kind = omega arith;
          last_kind = omega arith;
        };
        last_place = omega (arith, q.0, few);
      }

  cell_of_ladder : (l c : ℕ) → cell_of One (group_at One l) 5 c ≡ l / 16 * 32 + c
  cell_of_ladder l c = ap (λ (k : ℕ). cell_of One (group_at One l) k c) (sym (five l)) ∙ ladder_cell One l c

  ladder_has : (l c : ℕ) → l < ladders One → c < 32 → HasCell One (group_at One l) 5 c
  ladder_has l c h w =
      record { row = subst (HasRow One (group_at One l)) (five l) (row_at One l h); last_place = w }

  -- a record's cell is the ladder's on a contract where it is of the ladder's group and on that contract
  own_cell : (l c k : ℕ) → l < ladders One → c < 32 → k < record_count records
      → eqb (cell_at contracts accounts records k) (l / 16 * 32 + c)
      ≡ is_of day (group_at One l) c (position_at records k)
  unfolding cell_at is_of group_on place_on positions_in
  own_cell l c k h w m =
      let r = position_at records k in
      let g = group_in (account_at accounts) (entries accounts) r.account in
      let p = limit_place (limited_at contracts) (limit_count contracts) r.contract in
      ap (eqb (cell_of One g 5 p)) (sym (cell_of_ladder l c))
      ∙ cell_test One g 5 p (group_at One l) 5 c (has_cell k m) (ladder_has l c h w)
      ∙ ap (λ (t : Bool). t && eqb p c) (and_yes_right (eqb g (group_at One l)))
    where
      and_yes_right : (t : Bool) → t && true ≡ t
      and_yes_right true = refl
      and_yes_right false = refl

  held_is : (side : Position → Lots) (l c : ℕ) → l < ladders One → c < limit_count contracts
      → get_or (side_to contracts accounts records side (record_count records)) (l / 16 * 32 + c) 0
      ≡ held_of side day (group_at One l) c
  unfolding side_to held_of positions_in
  held_is side l c h w =
      let there : l / 16 * 32 + c < cells One =
      omega (arith, cell_of_ladder l c, cell_there One (group_at One l) 5 c (ladder_has l c h (omega arith))) in
      summed_at (cells One) (cell_at contracts accounts records) (λ k. (side (position_at records k)).0)
      (record_count records) (l / 16 * 32 + c) there
      ∙ sum_cong _ _ (record_count records)
      (λ k m. ap (λ (t : Bool). pick t (side (position_at records k)).0 0) (own_cell l c k h (omega arith) m))

  -- ---- the ladders
  abbrev fams : List ℕ
  fams = families_in text contracts

  abbrev longs : List ℕ
  longs = long_to contracts accounts records (record_count records)

  abbrev shorts : List ℕ
  shorts = short_to contracts accounts records (record_count records)

  families_length : length fams ≡ limit_count contracts
  unfolding families_in
  families_length = ones_length (family_in text contracts) (limit_count contracts)

  family_is : (k : ℕ) → k < limit_count contracts → get_or fams k 0 ≡ family_of day k
  unfolding families_in family_of positions_in
  family_is k h = ones_at (family_in text contracts) (limit_count contracts) k h

  -- what the cells hold for a ladder's group on a contract
  abbrev long_held : (l c : ℕ) → ℕ
  long_held l c = get_or longs (l / 16 * 32 + c) 0

  abbrev short_held : (l c : ℕ) → ℕ
  short_held l c = get_or shorts (l / 16 * 32 + c) 0

  over_is : (l c : ℕ) → l < ladders One → c < limit_count contracts
      → over_at text contracts fams longs shorts l c ≡ over_on day (group_at One l) (family_at l) c
  unfolding over_at over_on positions_in
  over_is l c h w =
      let e = limited_at contracts c in
      let g = group_at One l in
      ap (λ (f : ℕ). eqb f (family_at l) && over_either text e (long_held l c) (short_held l c)) (family_is c w)
      ∙ ap (λ (n : ℕ). eqb (family_of day c) (family_at l) && over_either text e n (short_held l c))
      (held_is (λ r. r.long) l c h w)
      ∙ ap (λ (n : ℕ). eqb (family_of day c) (family_at l) && over_either text e (held_of (λ r. r.long) day g c) n)
      (held_is (λ r. r.short) l c h w)

  -- the group has fewer than two accounts, or the first contract decides
  many_cases : (size low n n' : ℕ) → n ≡ n' → pick (ltb size 2) n low ≡ pick (leb 2 size) low n'
  many_cases size low n n' e = go (leb 2 size) refl
    where
      go : (t : Bool) → leb 2 size ≡ t → pick (ltb size 2) n low ≡ pick (leb 2 size) low n'
      go true q = sym (pick_no _ _ _ _ (le-ltb size 2 (leb-true 2 size q)) refl) ∙ pick_yes _ _ _ _ q refl
      go false q = sym (pick_yes _ _ _ _ (lt-ltb size 2 (leb-false 2 size q)) refl) ∙ e ∙ pick_no _ _ _ _ q refl

  place_is : (l : ℕ) → l < ladders One
      → place_at text contracts fams longs shorts (sizes_in accounts) l ≡ lowest_on day l
  unfolding place_at lowest_on is_many positions_in kinds_in
  place_is l h =
      let g = group_at One l in
      let size : get_or (sizes_in accounts) (l / 16 + 1) 0 ≡ group_size day.account day.accounts g =
      size_is (l / 16 + 1) (omega arith) in
      let low : first (over_at text contracts fams longs shorts l) (length fams)
      ≡ first (over_on day g (family_at l)) (limit_count contracts) =
      ap (first (over_at text contracts fams longs shorts l)) families_length
      ∙ first_cong _ _ (limit_count contracts) (λ c w. over_is l c h w) in
      ap₂ (λ (n k : ℕ). pick (ltb n 2) (length fams) k) size low
      ∙ many_cases (group_size day.account day.accounts g)
      (first (over_on day g (family_at l)) (limit_count contracts))
      (length fams) (limit_count contracts) families_length

  abbrev places : List ℕ
  places = places_in text contracts fams longs shorts (sizes_in accounts)

  filled : (l : ℕ) → l < ladders One → place_in places l ≡ lowest_on day l
  unfolding places_in place_in
  filled l h =
      let at = place_at text contracts fams longs shorts (sizes_in accounts) in
      let n : length places ≡ ladders One = ones_length at (ladders One) in
      there places l 255 (omega arith) ∙ ones_at at (ladders One) l h ∙ place_is l h

  -- ---- the contracts
  ids_length : length (ids_in contracts) / 2 ≡ limit_count contracts
  unfolding ids_in
  ids_length =
      omega (
        arith,
        rows_length (λ k. bytes 2 (limited_at contracts k).id) 2 (λ k. bytes_length 2 _) (limit_count contracts),
      )

  id_is : ((j : ℕ) → get_or contracts j 0 < 256) → (k : ℕ) → k < limit_count contracts
      → le 2 (ids_in contracts) (2 * k) ≡ (day.contract k).id
  unfolding ids_in positions_in limited_at
  id_is small k h =
      pair_at (λ j. (limited_at contracts j).id) (limit_count contracts) k h (pair_low contracts (16 * k) small)

  verdict_same : ((j : ℕ) → get_or contracts j 0 < 256)
      → Same (verdict_in position_shape text.rulebook places (ids_in contracts) []) (verdict_on day)
  unfolding verdict_in verdict_on positions_in position_shape
  verdict_same small = record {
    shape = refl;
    rulebook = refl;
    contracts = ids_length;
    lowest = filled;
    id = id_is small;
    member = λ g low high. refl;
  }

-- ---- of a log without fault
module _ (h : Header) (log : List ℕ) (e : h ≡ header_of log) (q : GoodPositions h log)
    (all : records_good (limits_part h log) (accounts_part h log) (records_part h log) ≡ true) where
  positions_are : positions_in (text_of h) (limits_part h log) (accounts_part h log) (records_part h log)
      ≡ positions_of log
  unfolding positions_of
  positions_are = rw e

  pub log_same : ((j : ℕ) → get_or log j 0 < 256)
      → Same (verdict_in position_shape h.rulebook (log_places h log) (ids_in (limits_part h log)) []) (log_verdict log)
  log_same small =
      subst
      (λ (p : Positions).
      Same (verdict_in position_shape h.rulebook (log_places h log) (ids_in (limits_part h log)) []) (verdict_on p))
      positions_are
      (verdict_same (text_of h) (limits_part h log) (accounts_part h log) (records_part h log)
      (omega (arith, q.most_contracts, length-take (16 * h.contracts) (drop 16 log))) q.accounts all
      (low_take (16 * h.contracts) (drop 16 log) (λ j. rw (get_or-drop 16 log j 0) (small (16 + j)))))
