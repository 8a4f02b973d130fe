-- Laws of table entries: the entry that a table's chunks have at a place; the search for a contract. Assumes nothing.
use mathlib.Core.Path.{◌≡◌, refl, sym, ap, ap₂, ◌∙◌}
use mathlib.Core.Bool.{Bool, true, false, cond, ◌&&◌}
use mathlib.Core.List.{List, []}
use Prim.Native.Nat.{ℕ, ◌+◌, ◌≤◌, ◌<◌}
use native.Mathlib.Numerals.{add-one}
use native.Mathlib.Omega.{arith}
use borrow.Author.Tests.{ltb-true, lt-ltb, le-ltb}
use lib.Dec.{ltb, eqb}
use lib.ListN.{length, get_or}
use Rattle.std.specs.Prelude.{Option, Some, None}
use Rattle.std.specs.List.{position_or_len}
use Rattle.std.specs.Simd.{first_chunks}
use Rattle.std.proofs.lemmas.Option.{none-some, cond_some}
use Rattle.wire.specs.Choice.{pick, within}
use Rattle.wire.specs.Bytes.{le}
use Rattle.wire.proofs.ChoiceLaws.{pick_yes, pick_no, and_left, and_right, bounds}
use Rattle.wire.proofs.BelowLaws.{every_at}
use Rattle.wire.proofs.ChunkLaws.{entry_at, number_in, number_first, byte_in, read_here, position_first}
use Rattle.tables.specs.declared.accounts.Account.{Account}
use Rattle.tables.specs.declared.contracts.Contract.{Contract}
use Rattle.tables.specs.Entries.{entries}
use Rattle.tables.specs.Accounts.{account_at, number_before, account_good_at, accounts_good}
use Rattle.tables.specs.ContractEntries.{contract_at, id_before, contract_place, found_contract, is_found, place_found}

module _ (s : List ℕ) (k : ℕ) where
  account_in : account_at (entry_at 8 s k) 0 ≡ account_at s k
  unfolding account_at
  account_in =
      rw (
        number_first 8 s k 4 (omega arith),
        byte_in 8 s k 4 (omega arith),
        byte_in 8 s k 5 (omega arith),
        number_in 8 s k 2 6 (omega arith),
      ) refl

  contract_in : contract_at (entry_at 8 s k) 0 ≡ contract_at s k
  unfolding contract_at
  contract_in =
      rw (
        number_first 8 s k 2 (omega arith),
        byte_in 8 s k 2 (omega arith),
        byte_in 8 s k 3 (omega arith),
        number_in 8 s k 4 4 (omega arith),
      ) refl

-- the entry that a table's chunks have at a place
module _ (s : List ℕ) (es : List (List ℕ)) (k : ℕ) (d : List ℕ) (cut : es ≡ first_chunks 8 (entries s) s)
    (here : k < entries s) where
  pub account_here : account_at (get_or es k d) 0 ≡ account_at s k
  account_here = read_here 8 s es _ k d cut here account_at (account_in s k)

  pub contract_here : contract_at (get_or es k d) 0 ≡ contract_at s k
  contract_here = read_here 8 s es _ k d cut here contract_at (contract_in s k)

  pub number_here : le 4 (get_or es k d) 0 ≡ (account_at s k).number
  unfolding account_at
  number_here = ap (λ (e : Account). e.number) account_here

  pub id_here : le 2 (get_or es k d) 0 ≡ (contract_at s k).id
  unfolding contract_at
  id_here = ap (λ (e : Contract). e.id) contract_here

-- what proves each return that reads an entry where there is one
pub ruleset entry_or_none = (contract_here, pick_yes, pick_no, lt-ltb, le-ltb)

-- the number of the entry before, one place on
pub number_before_lem : (s : List ℕ) (k : ℕ) → (account_at s k).number ≡ number_before s (k + 1)
unfolding number_before
number_before_lem s k = rw add-one

pub id_before_lem : (s : List ℕ) (k : ℕ) → (contract_at s k).id ≡ id_before s (k + 1)
unfolding id_before
id_before_lem s k = rw add-one

-- the search for a contract among a table's chunks, from the place that it comes to
module _ (s : List ℕ) (es : List (List ℕ)) (id : ℕ) (cut : es ≡ first_chunks 8 (entries s) s)
    (len : length es ≡ entries s) where
  abbrev pub is_id : List ℕ → Bool
  is_id e = eqb (le 2 e 0) id

  abbrev place : ℕ
  place = contract_place (contract_at s) (entries s) id

  abbrev placed : Option ℕ
  placed = cond (ltb place (entries s)) (Some place) None

  pub id_placed : (r : Option ℕ)
      → r ≡ cond (ltb (position_or_len is_id es) (length es)) (Some (position_or_len is_id es)) None → r ≡ placed
  unfolding contract_place
  id_placed r e =
      e ∙ position_first is_id (λ k. eqb (contract_at s k).id id) es [] (entries s) len
      (λ k h. ap (λ (n : ℕ). eqb n id) (id_here s es k [] cut h))

  pub found_at : (k : ℕ) (e : Contract) → Some k ≡ placed → e ≡ contract_at (get_or es k []) 0
      → Some (k, e) ≡ found_contract s id
  unfolding found_contract
  found_at k e at is =
      let q = cond_some _ _ _ (sym at) in
      let here : k < entries s = omega (arith, q.1, ltb-true place (entries s) q.0) in
      pick_yes _ _ _ _ q.0
      (ap₂ (λ n x. Some (n, x)) (sym q.1) (is ∙ contract_here s es k [] cut here ∙ ap (contract_at s) (sym q.1)))

  pub found_nothing : None ≡ placed → None ≡ found_contract s id
  unfolding found_contract
  found_nothing is = go (ltb place (entries s)) refl
    where
      go : (t : Bool) → ltb place (entries s) ≡ t → None ≡ found_contract s id
      go true e = absurd (none-some place (is ∙ ap (λ t. cond t (Some place) None) e))
      go false e = pick_no _ _ _ _ e refl

-- the answer's values: it finds a contract exactly where the table has it, and then at its place
pub values_found : (s : List ℕ) (id : ℕ) →
    let place = contract_place (contract_at s) (entries s) id in
    (is_found (found_contract s id) ≡ ltb place (entries s))
    × (place_found (found_contract s id) ≡ pick (ltb place (entries s)) place 0)
unfolding found_contract pick
values_found s id = go (ltb (contract_place (contract_at s) (entries s) id) (entries s))
  where
    at : Option (ℕ × Contract)
    at =
        let place = contract_place (contract_at s) (entries s) id in
        Some (place, contract_at s place)

    go : (t : Bool) → (is_found (pick t at None) ≡ t) × (place_found (pick t at None) ≡ pick t (place_found at) 0)
    go true = (refl, refl)
    go false = (refl, refl)

-- a good table's groups are 1 to 128
pub group_at_lem : (s : List ℕ) → accounts_good s ≡ true → (k : ℕ) → k < entries s → (1 ≤ (account_at s k).group)
    × ((account_at s k).group ≤ 128)
unfolding accounts_good
group_at_lem s e k h =
    let rises = ltb (number_before s k) (account_at s k).number in
    let group = within 1 128 (account_at s k).group in
    let kind = within 1 2 (account_at s k).kind in
    let spare = eqb (account_at s k).spare 0 in
    let good : rises && group && kind && spare ≡ true = every_at (account_good_at s) (entries s) k e h in
    bounds 1 128 (account_at s k).group
    (and_right rises group (and_left (rises && group) kind (and_left (rises && group && kind) spare good)))
