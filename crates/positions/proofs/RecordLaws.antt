-- A turn of the pass over the records: what its tests say of a record, the record's cell, and the sums after it.
-- Assumes nothing.
use mathlib.Core.Path.{◌≡◌, refl, sym, ap, ap₂, ◌∙◌}
use mathlib.Core.Bool.{Bool, true, false, not, ◌&&◌}
use mathlib.Core.List.{List, []}
use Prim.Native.Nat.{ℕ, ◌+◌, ◌*◌, ◌≤◌, ◌<◌}
use native.Mathlib.Omega.{arith}
use borrow.Author.Tests.{ltb-true, not-false, not-true}
use lib.Dec.{ltb, eqb}
use lib.ListN.{length, get_or, replicate}
use Rattle.std.specs.Simd.{first_chunks}
use Rattle.wire.specs.Below.{every}
use Rattle.wire.proofs.ByteLaws.{four_low}
use Rattle.wire.proofs.ChoiceLaws.{pick_yes, and_right}
use Rattle.wire.proofs.BelowLaws.{every_fails}
use Rattle.rules.specs.declared.kinds.Kinds.TheVariants.{One}
use Rattle.rules.specs.declared.measure.Lots.{Lots}
use Rattle.tables.specs.Entries.{entries}
use Rattle.tables.specs.Accounts.{account_at, accounts_good, is_in, group_in}
use Rattle.tables.specs.Way.{found_account}
use Rattle.tables.proofs.Search.{found_length, found_group}
use Rattle.places.specs.Places.{cells, cell_of}
use Rattle.positions.specs.declared.records.Position.{Position}
use Rattle.positions.specs.LimitEntries.{limit_count, limited_at, limit_place}
use Rattle.positions.specs.Records.{record_count, position_at, contract_before, account_before, fields_good, good_at}
use Rattle.positions.specs.Records.{records_good}
use Rattle.positions.specs.Way.{added_in, cell_at, side_to, long_to, short_to}
use Rattle.positions.specs.Sums.{sums_of}
use Rattle.positions.specs.declared.sums.Sums.{Sums}
use Rattle.positions.proofs.EntryLaws.{position_here}
use Rattle.positions.proofs.SumLaws.{summed_none, summed_more, summed_most}

-- an amount has 32 bits
pub long_most : (s : List ℕ) → ((i : ℕ) → get_or s i 0 < 256) → (k : ℕ) → (position_at s k).long.0 ≤ 4294967295
unfolding position_at
long_most s small k = omega (arith, four_low s (16 * k + 8) small)

pub short_most : (s : List ℕ) → ((i : ℕ) → get_or s i 0 < 256) → (k : ℕ) → (position_at s k).short.0 ≤ 4294967295
unfolding position_at
short_most s small k = omega (arith, four_low s (16 * k + 12) small)

module _ (contracts accounts records : List ℕ) (good : accounts_good accounts ≡ true) where
  abbrev pub placed : ℕ → ℕ
  placed id = limit_place (limited_at contracts) (limit_count contracts) id

  -- what was looked up for the record at place k
  pub record Looked (k contract account : ℕ) (r : Position) (place : ℕ) (entry : List ℕ) : Type 0 where
    pub own : r ≡ position_at records k
    pub contract_is : contract ≡ contract_before records k
    pub account_is : account ≡ account_before records k
    pub place_is : place ≡ placed r.contract
    pub entry_is : entry ≡ found_account accounts r.account

  -- for the record that the chunks have there
  pub looked : {k contract account place : ℕ} {r : Position} {entry : List ℕ} (rows : List (List ℕ))
      → rows ≡ first_chunks 16 (record_count records) records → k < record_count records
      → r ≡ position_at (get_or rows k []) 0 → contract ≡ contract_before records k
      → account ≡ account_before records k → place ≡ placed r.contract → entry ≡ found_account accounts r.account
      → Looked k contract account r place entry
  looked {k = k} rows cut here own contract account place entry = record {
    own = own ∙ position_here records rows k [] cut here;
    contract_is = contract;
    account_is = account;
    place_is = place;
    entry_is = entry;
  }

  module _ {k contract account place : ℕ} {r : Position} {entry : List ℕ} (l : Looked k contract account r place entry)
      {fields : Bool} (f : fields ≡ fields_good contract account r) where
    abbrev tested : Bool
    tested = fields && ltb place (limit_count contracts) && not (eqb (length entry) 0)

    -- the tests of the turn are those of the record
    there : not (eqb (length entry) 0) ≡ is_in (account_at accounts) (entries accounts) r.account
    unfolding is_in
    there =
        ap (λ (e : List ℕ). not (eqb (length e) 0)) l.entry_is
        ∙ ap not (found_length accounts good r.account) ∙ flip_twice _
      where
        flip_twice : (t : Bool) → not (not t) ≡ t
        flip_twice true = refl
        flip_twice false = refl

    tests : tested ≡ good_at contracts accounts records k
    unfolding good_at
    tests =
        ap₂ (λ (x : Bool) (p : ℕ). x && ltb p (limit_count contracts) && not (eqb (length entry) 0)) f l.place_is
        ∙ ap (λ (x : Bool). fields_good contract account r && ltb (placed r.contract) (limit_count contracts) && x)
        there
        ∙ ap₂ (λ (a b : ℕ). fields_good a b r && ltb (placed r.contract) (limit_count contracts)
        && is_in (account_at accounts) (entries accounts) r.account) l.contract_is l.account_is
        ∙ ap (λ (x : Position). fields_good (contract_before records k) (account_before records k) x
        && ltb (placed x.contract) (limit_count contracts)
        && is_in (account_at accounts) (entries accounts) x.account) l.own

    pub turn_bad : not tested ≡ true → good_at contracts accounts records k ≡ false
    turn_bad e = sym tests ∙ not-true tested e

    pub turn_good : not tested ≡ false → good_at contracts accounts records k ≡ true
    turn_good e = sym tests ∙ not-false tested e

    -- the cell of the record
    pub turn_cell : not tested ≡ false → (group : ℕ) → group ≡ get_or entry 4 0
        → cell_of One group 5 place ≡ cell_at contracts accounts records k
    unfolding cell_at group_in is_in
    turn_cell e group g =
        let is : is_in (account_at accounts) (entries accounts) r.account ≡ true =
        sym there ∙ and_right (fields && ltb place (limit_count contracts)) _ (not-false tested e) in
        let own : group ≡ group_in (account_at accounts) (entries accounts) r.account =
        g ∙ ap (λ (s : List ℕ). get_or s 4 0) l.entry_is
        ∙ found_group accounts good r.account (ltb-true _ _ is) ∙ pick_yes _ _ _ _ is refl in
        ap₂ (λ (a b : ℕ). cell_of One a 5 b) own l.place_is
        ∙ ap (λ (x : Position). cell_of One (group_in (account_at accounts) (entries accounts) x.account) 5
        (placed x.contract)) l.own

  -- ---- the sums of a side
  module _ (side : Position → Lots) where
    pub side_none : replicate (cells One) 0 ≡ side_to contracts accounts records side 0
    unfolding side_to
    side_none = sym (summed_none (cells One) _ _)

    pub side_turn : (k : ℕ) {c c' : List ℕ} {cell amount : ℕ} → c ≡ side_to contracts accounts records side k
        → cell ≡ cell_at contracts accounts records k → amount ≡ (side (position_at records k)).0
        → c' ≡ added_in c cell amount → c' ≡ side_to contracts accounts records side (k + 1)
    unfolding side_to
    side_turn k {cell = cell} {amount = amount} is at v e =
        e ∙ ap (λ (s : List ℕ). added_in s cell amount) is ∙ ap₂ (λ (i n : ℕ). added_in (summed_to k) i n) at v
        ∙ summed_more (cells One) (cell_at contracts accounts records) (λ j. (side (position_at records j)).0) k
      where
        summed_to : ℕ → List ℕ
        summed_to = side_to contracts accounts records side

    pub side_most : ((k : ℕ) → (side (position_at records k)).0 ≤ 4294967295) → (k i : ℕ) {c : List ℕ}
        → c ≡ side_to contracts accounts records side k → get_or c i 0 ≤ 4294967295 * k
    unfolding side_to
    side_most few k i e =
        rw e (summed_most (cells One) (cell_at contracts accounts records) (λ j. (side (position_at records j)).0)
        few k i)

  -- ---- all records
  pub all_bad : (k : ℕ) → k < record_count records → good_at contracts accounts records k ≡ false
      → records_good contracts accounts records ≡ false
  unfolding records_good
  all_bad k h e = every_fails (good_at contracts accounts records) k (record_count records) h e

  pub all_good : (k : ℕ) → k ≡ record_count records → every (good_at contracts accounts records) k ≡ true
      → records_good contracts accounts records ≡ true
  unfolding records_good
  all_good k e t = sym (ap (every (good_at contracts accounts records)) e) ∙ t

  pub sums_all : (s : Sums) (k : ℕ) → k ≡ record_count records → s.longs ≡ long_to contracts accounts records k
      → s.shorts ≡ short_to contracts accounts records k → s ≡ sums_of contracts accounts records
  sums_all s k e long short =
      let l = long ∙ ap (long_to contracts accounts records) e in
      let r = short ∙ ap (short_to contracts accounts records) e in
      λ i. record { longs = l i; shorts = r i }
