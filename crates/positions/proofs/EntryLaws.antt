-- Laws of contract entries and records: the entry at a place of a table's chunks, what stands before the next one, and
-- the search for a contract. Assumes nothing.
use mathlib.Core.Path.{◌≡◌, refl, ap, ap₂, ◌∙◌}
use mathlib.Core.Bool.{Bool, true, false, cond}
use mathlib.Core.List.{List, []}
use Prim.Native.Nat.{ℕ, ◌+◌, ◌≤◌, ◌<◌}
use native.Mathlib.Numerals.{add-one}
use native.Mathlib.Omega.{arith}
use borrow.Author.Tests.{ltb-false}
use lib.Dec.{eqb, ltb}
use lib.ListN.{length, get_or}
use Rattle.std.specs.Prelude.{Option, Some, None}
use Rattle.std.specs.Option.{unwrap_or}
use Rattle.std.specs.List.{position_or_len}
use Rattle.std.specs.Simd.{first_chunks}
use Rattle.wire.specs.Bytes.{le}
use Rattle.wire.proofs.ChunkLaws.{entry_at, number_in, number_first, byte_in, read_here, position_first}
use Rattle.wire.proofs.BelowLaws.{first_le}
use Rattle.tables.specs.Entries.{entries}
use Rattle.tables.specs.Accounts.{account_at}
use Rattle.tables.specs.declared.accounts.Account.{Account}
use Rattle.tables.proofs.EntryLaws.{account_here}
use Rattle.positions.specs.declared.contracts.Limited.{Limited}
use Rattle.positions.specs.LimitEntries.{limit_count, limited_at, id_before, limit_place}
use Rattle.positions.specs.Records.{position_at, contract_before, account_before}

pub id_before_lem : (s : List ℕ) (k : ℕ) → (limited_at s k).id ≡ id_before s (k + 1)
unfolding id_before
id_before_lem s k = rw add-one

pub contract_before_lem : (s : List ℕ) (k : ℕ) → (position_at s k).contract ≡ contract_before s (k + 1)
unfolding contract_before
contract_before_lem s k = rw add-one

pub account_before_lem : (s : List ℕ) (k : ℕ) → (position_at s k).account ≡ account_before s (k + 1)
unfolding account_before
account_before_lem s k = rw add-one

-- ---- the group of the account that a table's chunks have at a place
pub group_here : (s : List ℕ) (es : List (List ℕ)) (k : ℕ) (d : List ℕ) → es ≡ first_chunks 8 (entries s) s
    → k < entries s → get_or (get_or es k d) 4 0 ≡ (account_at s k).group
unfolding account_at
group_here s es k d cut here = ap (λ (e : Account). e.group) (account_here s es k d cut here)

-- ---- the entry of 16 bytes at a place, as a table's chunks have it
module _ (s : List ℕ) (k : ℕ) where
  limited_in : limited_at (entry_at 16 s k) 0 ≡ limited_at s k
  unfolding limited_at
  limited_in =
      rw (
        number_first 16 s k 2 (omega arith),
        byte_in 16 s k 2 (omega arith),
        byte_in 16 s k 3 (omega arith),
        number_in 16 s k 4 4 (omega arith),
        number_in 16 s k 4 8 (omega arith),
        number_in 16 s k 4 12 (omega arith),
      ) refl

  position_in : position_at (entry_at 16 s k) 0 ≡ position_at s k
  unfolding position_at
  position_in =
      rw (
        number_first 16 s k 2 (omega arith),
        number_in 16 s k 2 2 (omega arith),
        number_in 16 s k 4 4 (omega arith),
        number_in 16 s k 4 8 (omega arith),
        number_in 16 s k 4 12 (omega arith),
      ) refl

module _ (s : List ℕ) (es : List (List ℕ)) (k : ℕ) (d : List ℕ) (cut : es ≡ first_chunks 16 (limit_count s) s)
    (here : k < limit_count s) where
  pub limited_here : limited_at (get_or es k d) 0 ≡ limited_at s k
  limited_here = read_here 16 s es _ k d cut here limited_at (limited_in s k)

  pub position_here : position_at (get_or es k d) 0 ≡ position_at s k
  position_here = read_here 16 s es _ k d cut here position_at (position_in s k)

-- ---- the place of a contract id among a table's chunks
-- the first place, or the number of all
unwrap_place : (p n : ℕ) → p ≤ n → unwrap_or (cond (ltb p n) (Some p) None) n ≡ p
unwrap_place p n h = go (ltb p n) refl
  where
    go : (t : Bool) → ltb p n ≡ t → unwrap_or (cond t (Some p) None) n ≡ p
    go true e = refl
    go false e = omega (arith, ltb-false p n e)

module _ (s : List ℕ) (es : List (List ℕ)) (id : ℕ) (cut : es ≡ first_chunks 16 (limit_count s) s)
    (len : length es ≡ limit_count s) where
  abbrev pub is_id : List ℕ → Bool
  is_id e = eqb (le 2 e 0) id

  abbrev is_at : ℕ → Bool
  is_at k = eqb (limited_at s k).id id

  id_here : (k : ℕ) → k < limit_count s → is_id (get_or es k []) ≡ is_at k
  unfolding limited_at
  id_here k h = ap (λ (e : Limited). eqb e.id id) (limited_here s es k [] cut h)

  pub limit_found : (r : Option ℕ)
      → r ≡ cond (ltb (position_or_len is_id es) (length es)) (Some (position_or_len is_id es)) None
      → unwrap_or r (length es) ≡ limit_place (limited_at s) (limit_count s) id
  unfolding limit_place
  limit_found r e =
      ap₂ unwrap_or (e ∙ position_first is_id is_at es [] (limit_count s) len id_here) len
      ∙ unwrap_place _ _ (first_le is_at (limit_count s))
